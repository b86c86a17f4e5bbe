-- The loop's invariant: the lines so far are written.
use Rattle.std.proofs.Common.{◌≡◌, ◌++◌}
use Rattle.answers.specs.Text.{lines_text}
use Rattle.answers.proofs.tell_lines.Given as goal

abbrev pub invariant-loop-k : goal.invariant-loop-k
invariant-loop-k g l = l.out ≡ l.initial.out ++ lines_text l.words l.k
