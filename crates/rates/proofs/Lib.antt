-- Laws on the rates of a book. Placing has those on the places of the rows, Ruling those on the rate in force, and
-- Keeping what holds of the rates of every book.
pub mod Searching
pub mod Placing
pub mod Ruling
pub mod Keeping
