-- No more is written than there is, and each turn of the loop leaves less to write.
use Rattle.std.specs.Prelude.{◌-◌, ◌≤◌, length}
use Rattle.settle.proofs.flow.write_all.Given as goal

abbrev pub invariant-loop-done : goal.invariant-loop-done
invariant-loop-done l = l.done ≤ length l.text

abbrev pub decreases-loop-done : goal.decreases-loop-done
decreases-loop-done l = length l.text - l.done
