-- If the bytes do not all fit, the line is the same as if all were written and those past its end were dropped.
use Rattle.std.proofs.Common.{arith, rules}
use Rattle.lines.proofs.Input.{held_cut}
use Rattle.lines.proofs.hold.Goals as goal

pub returns-clause-line_after : goal.returns-clause-line_after
returns-clause-line_after c =
    held_cut c.args.line.now c.args.part.now _ c.args.held c.min-count.result _ (omega arith) (omega arith) (omega arith) (search rules)
