-- How a line of a journal is read. Numbers: the number that a word is. Words: the words of a line. Calls: the names of
-- the calls, and their arguments. Lines: what a line says. Found: what the private functions find.
pub mod Numbers
pub mod Words
pub mod Calls
pub mod Lines
pub mod Found
