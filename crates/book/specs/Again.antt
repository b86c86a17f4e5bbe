-- The call Again.
use Rattle.std.specs.Prelude.{ℕ, List, length}
use Rattle.basics.specs.Refusals.{answer, outcome}
use Rattle.closing.specs.Lines.{written}
use Rattle.reprint.specs.Kept.{lines_kept}
use Rattle.refusals.specs.Calls.{again_refusals}
use Rattle.book.specs.declared.Book.{Book}
use Rattle.book.specs.declared.Closed.{Closed}
use Rattle.book.specs.Close.{close_refused}

-- A17, Refusals: the answer number of Again, with this many words lent
abbrev pub again_answer : Book → ℕ → ℕ
again_answer b words = answer (again_refusals b.day.has_closed words)

-- N2 and N5, Again: an Again that is done returns the number of lines that the latest Close returned, and the same book
abbrev pub again_done : Book → Closed
again_done b = record { answer = 0; count = b.last.count; book = b }

-- N1 to N5, Again: what Again returns, with this many words lent
unfoldable pub again : Book → ℕ → Closed
again b words = outcome (again_answer b words) (again_done b) (close_refused b)

-- N2, Again; A5, Refusals: every word of the lent list as Again ends. If it is done, the lines of the latest Close are
-- at the front.
unfoldable pub again_words : Book → List ℕ → List ℕ
again_words b ws = outcome (again_answer b (length ws)) (written (lines_kept b.last) ws) (λ n. ws)
