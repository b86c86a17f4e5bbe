-- The loop's invariant: the digits of what is left and those that stand are the digits of the number, and there are
-- places for what is left. The measure is what is left.
use Rattle.std.proofs.Common.{◌≡◌, ◌≤◌, ◌++◌, drop, length}
use Rattle.writing.specs.Digits.{digits_of}
use Rattle.writing.proofs.put_digits.Given as goal

abbrev pub invariant-loop-left : goal.invariant-loop-left
invariant-loop-left l =
    (digits_of l.n ≡ digits_of l.left ++ drop l.first l.places) × (length (digits_of l.left) ≤ l.first) × (l.first ≤ 20) × (length l.places ≡ 20)

abbrev pub decreases-loop-left : goal.decreases-loop-left
decreases-loop-left l = l.left
