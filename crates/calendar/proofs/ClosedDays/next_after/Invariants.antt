-- `next_after` meets its contract: no day up to the one of each turn is a clearing day after the day that was given.
use Rattle.std.specs.Prelude.{◌≡◌}
use Rattle.calendar.specs.Closed.{day, listed_days}
use Rattle.calendar.specs.Days.{next_after}
use Rattle.calendar.proofs.ClosedDays.next_after.Given as goal

abbrev pub invariant-loop-d : goal.invariant-loop-d
invariant-loop-d l = next_after (listed_days l.self) l.fn.day ≡ next_after (listed_days l.self) (day l.d)
