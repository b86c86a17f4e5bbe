-- Laws of the input. Input: what is taken of it, and which bytes are held. Bounds: what is taken lies within what was
-- read. Cutting: the lines that are taken are those of the text.
pub mod Input
pub mod Bounds
pub mod Cutting
