-- `nth_after` calls itself with a count that is smaller by one, and the count is the measure.
use Rattle.calendar.proofs.ClosedDays.+nth_after.Given as goal

abbrev pub decreases-nth_after : goal.decreases-nth_after
decreases-nth_after l = l.n.0
