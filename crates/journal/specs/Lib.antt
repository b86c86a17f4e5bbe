-- Whole journals. `Calls` has the calls and what came of them, `Played` what the rules give for a list of calls,
-- `Facts` what one event says, `Sums` the sums over a journal, `History` what a book stores, told by the events alone,
-- and `Promise` what is promised of every journal.
pub mod Calls
pub mod Played
pub mod Facts
pub mod Sums
pub mod History
pub mod Promise
