-- `of` meets its contract. The loop's invariant: the first i lines are kept.
use Rattle.std.proofs.Common.{◌≡◌, map}
use Rattle.basics.specs.Lists.{padded}
use Rattle.ledger.specs.Lines.{most_lines}
use Rattle.closing.specs.Lines.{lines_read}
use Rattle.reprint.specs.Kept.{kept_line, no_line}
use Rattle.reprint.proofs.LastClose.of.Given as goal

abbrev pub invariant-loop-i : goal.invariant-loop-i
invariant-loop-i l = l.rows ≡ padded most_lines no_line (map kept_line (lines_read l.i l.lines))
