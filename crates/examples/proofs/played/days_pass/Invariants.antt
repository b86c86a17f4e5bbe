-- `days_pass` meets its contract.
use Prim.Native.Nat.{◌-◌}
use mathlib.Core.Path.{◌≡◌}
use Rattle.book.specs.Book.{Valid}
use Rattle.examples.specs.Played.{book_after, days_pass}
use Rattle.examples.proofs.played.days_pass.Given as goal

abbrev pub invariant-loop : goal.invariant-loop
invariant-loop l = (book_after l.today (days_pass (l.count - l.counter)) ≡ book_after l.initial.today (days_pass l.count)) × Valid l.today
