-- Laws of the instructions: Matching says what the lowest fit is; Keeping what a new leg and a new state leave of the
-- legs, and how many then wait; Fetching what a number finds.
pub mod Matching
pub mod Keeping
pub mod Fetching
