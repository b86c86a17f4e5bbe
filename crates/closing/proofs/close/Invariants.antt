-- `close` meets its contract. The loop's invariant: the first i obligations are closed, and their penalties moved.
use Rattle.closing.proofs.Together.{Done}
use Rattle.closing.proofs.close.Given as goal

abbrev pub invariant-loop-i : goal.invariant-loop-i
invariant-loop-i l = Done l.day l.initial.ledger l.i l.ledger l.count l.initial.lines l.lines
