-- Laws of the book. Outcomes: what holds of a call that is done and of one that is refused holds of the call.
-- FreshBooks, Kept, Ended and Paid: Open gives the premise, and every call keeps it. Refused: each call's answer number
-- is that of its list of refusals. Matched: the obligation that a match makes. Answers: how a call's contract is put
-- together. Changing: a call that changes one obligation. Entering: what an Enter comes to. Usable: refusal 26 does not
-- stop a book.
pub mod Outcomes
pub mod FreshBooks
pub mod Kept
pub mod Ended
pub mod Paid
pub mod Refused
pub mod Matched
pub mod Answers
pub mod Changing
pub mod Entering
pub mod Usable
