-- The lines of the input. Input: how far the input has come, and what is taken from it. Text: how a text is cut into
-- lines.
pub mod Input
pub mod Text
