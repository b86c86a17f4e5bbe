-- Journals: an Open, and then calls with what came of them.
use Rattle.std.specs.Prelude.{ℕ, List}
use Rattle.calendar.specs.declared.Day.{Day}
use Rattle.book.specs.declared.Book.{Book}

-- O1, Open: what an Open was given: the first day, the closed days as they were lent, and the number of the terms
pub record Opening : Type 0 where
  pub first : Day
  pub closed : List ℕ
  pub terms : ℕ

-- J1, Whole journals: a call with any arguments, and the lists that it is lent, as they are when it begins
pub data Call : Type 0 where
  enter : (member other side quantity amount : ℕ) (day : Day) → Call
  withdraw : (leg member : ℕ) → Call
  cancel : (obligation member : ℕ) → Call
  deliver : (obligation quantity : ℕ) → Call
  offer : (obligation supplier quantity price : ℕ) → Call
  rate : (start : Day) (rate : ℕ) → Call
  close : (price : ℕ) (lines : List ℕ) → Call
  again : (lines : List ℕ) → Call
  month : (collected payouts : List ℕ) → Call

-- J3, Whole journals: a call and what came of it: the answer number, the results in the order of the rules, and the
-- words of its lent lists as the call ended. These are the list that it fills (the lines of a Close or an Again, the
-- payouts of a Month) and the list that it only reads (the collected amounts of a Month). The other calls have no
-- words.
pub record Event : Type 0 where
  pub call : Call
  pub answer : ℕ
  pub results : List ℕ
  pub words : List ℕ
  pub kept : List ℕ

-- J3, Whole journals: what came of an Open: its answer number, and the closed days that it was lent, as it ended
pub record Began : Type 0 where
  pub answer : ℕ
  pub closed : List ℕ

-- J1, Whole journals: a journal so far: its Open and what came of it, the book, and the events that led to the book,
-- the latest first
pub record Run : Type 0 where
  pub opening : Opening
  pub began : Began
  pub book : Book
  pub past : List Event
