-- What the program does with a journal. Asked: what a line asks. Calls: its call, played on the book. Flow: bytes in
-- and out. Turns: how the journal is played, turn by turn. Ending: what is written last. Read: what was read and
-- written in all turns. Journal: the Open and the calls that the lines say.
pub mod Asked
pub mod Calls
pub mod Flow
pub mod Turns
pub mod Ending
pub mod Read
pub mod Journal
