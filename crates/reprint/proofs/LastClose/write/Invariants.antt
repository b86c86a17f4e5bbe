-- `write` meets its contract. The loop's invariant: the lines of the first i rows are written.
use Rattle.std.proofs.Common.{◌≡◌}
use lib.Seq.{sets}
use Rattle.closing.specs.Lines.{flat}
use Rattle.reprint.proofs.Keeping.{front}
use Rattle.reprint.proofs.LastClose.write.Given as goal

abbrev pub invariant-loop-i : goal.invariant-loop-i
invariant-loop-i l = l.lines ≡ sets l.initial.lines 0 (flat (front l.i l.self.rows))
