-- Laws of writing. Digits: the digits of a number. Signed: numbers with a sign. Writing: bytes that are written one
-- after another.
pub mod Digits
pub mod Signed
pub mod Writing
pub mod Searching
