-- Laws of the program. Asking: what a line asks. Lending: the words that a call is lent. Flows: where the input and the
-- output stand. Turning: what holds between two turns. Doing: what a line does that asks for a call. Endings: what is
-- written last. Texts: the lines that are played are those of the text. Completing: a run whose input is over is
-- complete. Requests: what a line is to a journal. Journals: the program and the theorem on whole journals. Opening: an
-- open with the days of a target.
pub mod Asking
pub mod Lending
pub mod Flows
pub mod Turning
pub mod Doing
pub mod Endings
pub mod Texts
pub mod Completing
pub mod Requests
pub mod Journals
pub mod Opening
