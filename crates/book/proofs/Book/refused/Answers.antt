-- `refused` meets its contract.
use mathlib.Core.Path.{ap, ◌∙◌}
use Rattle.book.specs.Open.{fresh_book, refused_book}
use Rattle.calendar.specs.Closed.{day}
use Rattle.calendar.specs.declared.ClosedDays.{ClosedDays}
use Rattle.book.proofs.Book.refused.Goals as goal

pub returns : goal.returns
unfolding refused_book
returns c = c.fresh.ensures ∙ ap (λ (k : ClosedDays). fresh_book (day 2) k 0) c.of.ensures.value
