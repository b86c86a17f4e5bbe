-- What is written. Digits: the digits of a number. Words: words on a line, with spaces between them. Answers: the text
-- of answers.
pub mod Digits
pub mod Words
pub mod Answers
