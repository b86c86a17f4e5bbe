-- Laws of reading. Examples: words and lines with what they say. RoundTrips: numbers, words and whole calls that are
-- written are read back the same. Values: the number that a word is. Arguments: what a caller of `read_line` knows
-- about a call. Splitting: how lines are split into words. Spelling: how words are compared. Shapes: the numbers that a
-- call has. Understanding: what a whole line says. Long: lines that are too long for a call. Reading and Collecting:
-- the loops that read a number, and the numbers of a line.
pub mod Splitting
pub mod Reading
pub mod Collecting
pub mod Values
pub mod Shapes
pub mod Spelling
pub mod Understanding
pub mod Arguments
pub mod RoundTrips
pub mod Examples
pub mod Long
