-- `write_years` meets its contract. The loop's invariant: the closed days of the first i years are stored.
use Rattle.std.specs.Prelude.{◌≡◌}
use lib.Seq.{sets}
use Rattle.holidays.specs.Target.{closed_from}
use Rattle.holidays.proofs.write_years.Given as goal

abbrev pub invariant-loop-i : goal.invariant-loop-i
invariant-loop-i l = l.days ≡ sets l.initial.days 0 (closed_from l.first l.i)
