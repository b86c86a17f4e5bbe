-- The journal that the lines of a text make: the Open and the calls since the latest open (docs/JOURNAL.md, Lines in).
use Rattle.std.specs.Prelude.{List, [], ◌∷◌, length}
use Rattle.journal.specs.Calls.{Opening, Call, Run}
use Rattle.journal.specs.Played.{played}
use Rattle.reading.specs.Lines.{Meaning}
use Rattle.reading.specs.Lines.Meaning.{call, comment, no_call}
use Rattle.settle.specs.Asked.{asked_call}
use Rattle.settle.specs.Calls.{Request, refused_opening, asking_of}
use Rattle.settle.specs.Calls.Request.{an_open, a_call, neither}

-- J1, Whole journals: what an Open was given, and the calls after it, the latest first
pub record Journal : Type 0 where
  pub opening : Opening
  pub calls : List Call

-- what a line asks for, by what it says: the name of a call and its numbers, a comment, or no call
unfoldable pub request_of : Meaning → Request
request_of (call name shape ns) = asking_of name (asked_call name shape (length ns) ns) ns
request_of comment = neither
request_of no_call = neither

-- the journal after a line: an Open begins another journal, and a call is the latest call of this one
unfoldable pub with_request : Request → Journal → Journal
with_request (an_open o) j = record { opening = o; calls = [] }
with_request (a_call k) j = record { opening = j.opening; calls = k.call ∷ j.calls }
with_request neither j = j

-- The journal of lines, by what they say, the latest first. Before the first open it has a refused Open and the calls
-- of all lines. `held_promised` in settle/proofs/Journals.antt proves that the book that the program holds is the one
-- to which the journal of the played lines leads, and that the promise on whole journals holds of this run.
unfoldable pub journal_of : List Meaning → Journal
journal_of [] = record { opening = refused_opening; calls = [] }
journal_of (line ∷ earlier) = with_request (request_of line) (journal_of earlier)

-- J3, Whole journals: what the rules give for a journal
abbrev pub run_of : Journal → Run
run_of j = played j.opening j.calls
