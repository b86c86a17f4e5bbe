-- `write_years` meets its contract. The loop's invariant: the closed days of the first i years are stored.
use Prim.Native.Nat.{ℕ, ◌+◌, ◌*◌}
use native.Mathlib.Nat.{le_antisymm}
use native.Mathlib.Omega.{arith}
use mathlib.Core.Path.{refl, ap, ◌∙◌}
use mathlib.Core.List.{List}
use lib.Seq.{sets}
use Rattle.basics.proofs.Stores.{sets_ahead}
use Rattle.holidays.specs.Target.{closed_in_year, closed_from}
use Rattle.holidays.proofs.Rising.{closed_length, stored_more}
use Rattle.holidays.proofs.write_years.Goals as goal

pub loop-i-init : goal.loop-i-init
unfolding closed_from
loop-i-init c = refl

pub loop-i-preserved : goal.loop-i-preserved
loop-i-preserved c =
    c.put_year.ensures
    ∙ ap (λ (l : List ℕ). sets l (6 * c.loop-i.i) (closed_in_year (c.args.first + c.loop-i.i))) c.loop-i.invariant
    ∙ stored_more c.args.days.now c.args.first c.loop-i.i

pub returns : goal.returns
returns c =
    let all = le_antisymm c.loop-i.auto.i-end c.loop-i-test.false in
    let size = closed_length c.args.first c.args.years in
    c.loop-i.invariant
    ∙ ap (λ i. sets c.args.days.now 0 (closed_from c.args.first i)) all
    ∙ sets_ahead c.args.days.now (closed_from c.args.first c.args.years) (omega (arith, c.requires.2))
