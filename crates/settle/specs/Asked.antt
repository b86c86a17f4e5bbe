-- What a line asks of the book, and with which arguments (docs/JOURNAL.md, Lines in).
use Rattle.std.specs.Prelude.{ℕ, ◌-◌, ◌≤◌, List, length, get_or, take}
use Rattle.std.proofs.lemmas.List.Edits.{sets}
use Rattle.basics.specs.Choice.{pick}
use Rattle.lines.specs.declared.Taken.{Taken}
use Rattle.lines.specs.Input.{ends, size}
use Rattle.reading.specs.declared.Name.{Name}
use Rattle.reading.specs.declared.Shape.{Shape}
use Rattle.reading.specs.declared.Line.{Line}
use Rattle.reading.specs.declared.Line.TheVariants.{Call, Comment, NoCall}
use Rattle.reading.specs.Calls.{most_listed}
use Rattle.reading.specs.Lines.{meaning_of, line_of, numbers_read}
use Rattle.settle.specs.declared.calls.Asked.{Asked}

-- a line that asks nothing of the book
abbrev pub nothing_asked : Line → Asked
nothing_asked line = record {
  line = line;
  first = 0;
  second = 0;
  third = 0;
  fourth = 0;
  fifth = 0;
  sixth = 0;
  from = 0;
  to = 0;
  lent = 0;
  fill = 0;
}

-- A call by its numbers. Its list is among them from one place up to another, and it is lent a number of words that are
-- filled with a value.
abbrev pub asked_with : Line → List ℕ → ℕ → ℕ → ℕ → ℕ → Asked
asked_with line ns from to lent fill = record {
  line = line;
  first = get_or ns 0 0;
  second = get_or ns 1 0;
  third = get_or ns 2 0;
  fourth = get_or ns 3 0;
  fifth = get_or ns 4 0;
  sixth = get_or ns 5 0;
  from = from;
  to = to;
  lent = lent;
  fill = fill;
}

-- A call that is lent words. The last two of its numbers say how many words it is lent and with which value they are
-- filled.
abbrev pub asked_lent : Line → List ℕ → ℕ → ℕ → ℕ → Asked
asked_lent line ns from to count = asked_with line ns from to (get_or ns (count - 2) 0) (get_or ns (count - 1) 0)

-- What a call asks, by its shape. Days follow the first three numbers. Amounts are between the first number and the
-- last two.
unfoldable pub asked_call : Name → Shape → ℕ → List ℕ → Asked
asked_call name (Shape.Plain k) count ns = asked_with (Call name (Shape.Plain k) count) ns 0 0 0 0
asked_call name Shape.Days count ns = asked_with (Call name Shape.Days count) ns 3 count 0 0
asked_call name (Shape.Lent k) count ns = asked_lent (Call name (Shape.Lent k) count) ns 0 0 count
asked_call name Shape.Amounts count ns = asked_lent (Call name Shape.Amounts count) ns 1 (count - 2) count

-- what a line asks, given the buffer for numbers, in which those of the line come first
unfoldable pub asked_of : Line → List ℕ → Asked
asked_of (Call name shape count) ns = asked_call name shape count ns
asked_of Comment ns = nothing_asked Comment
asked_of NoCall ns = nothing_asked NoCall

-- The buffer for numbers after bytes of a line were taken. If the line has ended, its numbers now come first.
unfoldable pub noted : Taken → List ℕ → List ℕ → List ℕ
noted t line ns = pick (ends t) (sets ns 0 (numbers_read (take (size t) line))) ns

-- What is asked after bytes of a line were taken. If the line has not ended yet, nothing is asked, as by a comment.
unfoldable pub asks : Taken → List ℕ → List ℕ → Asked
asks t line ns =
    pick (ends t) (asked_of (line_of (meaning_of (take (size t) line))) (noted t line ns)) (nothing_asked Comment)

-- A call's list is within its numbers, and no more words are lent than a list may have.
pub record Listed (a : Asked) (numbers : List ℕ) : Type 0 where
  pub begins : a.from ≤ a.to
  pub ends : a.to ≤ length numbers
  pub lends : a.lent ≤ most_listed
