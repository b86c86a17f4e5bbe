-- `of` meets its contract: the days of the turns so far are at the front, and the places after them are free.
use Rattle.std.specs.Prelude.{◌≡◌, map, take}
use Rattle.basics.specs.Lists.{padded}
use Rattle.calendar.specs.Closed.{day, most_closed}
use Rattle.calendar.proofs.ClosedDays.of.Given as goal

abbrev pub invariant-loop-i : goal.invariant-loop-i
invariant-loop-i l = l.days ≡ padded most_closed (day 0) (map day (take l.i l.list))
