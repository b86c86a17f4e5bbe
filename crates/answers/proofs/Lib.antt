-- Laws of answers as text. Lengths: how long they are. Kept: how the kept words are counted. Tells: which answers can
-- be written, and how much room they need.
pub mod Lengths
pub mod Kept
pub mod Tells
