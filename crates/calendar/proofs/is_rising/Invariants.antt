-- `is_rising` meets its contract: the days from each turn on rise from the least day that may come next.
use Rattle.std.specs.Prelude.{◌≡◌, drop}
use Rattle.calendar.specs.Closed.{rises_from}
use Rattle.calendar.proofs.is_rising.Given as goal

abbrev pub invariant-loop-day : goal.invariant-loop-day
invariant-loop-day l = rises_from l.least (drop l.day-index l.days) ≡ rises_from 0 l.days
