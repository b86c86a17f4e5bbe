-- Kept has the lines of the latest Close, as the book keeps them.
pub mod Kept
