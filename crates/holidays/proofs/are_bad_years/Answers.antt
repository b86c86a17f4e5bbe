-- `are_bad_years` meets its contract.
use mathlib.Core.Path.{◌≡◌}
use mathlib.Core.Bool.{◌||◌}
use lib.Dec.{ltb}
use borrow.Author.Tests.{lt-ltb, le-ltb}
use Rattle.holidays.specs.Target.{years_in, most_years, bad_years}
use Rattle.holidays.proofs.Refused.{more_years}
use Rattle.holidays.proofs.are_bad_years.Goals as goal
use Rattle.holidays.proofs.are_bad_years.Goals.{Else-is_outside-2}

-- if both years are taken by themselves, their order and their number decide
both_inside : (c : Else-is_outside-2) → let a = c.args in
    bad_years a.first a.last ≡ (ltb a.last a.first || ltb most_years (years_in a.first a.last))
both_inside c =
    rw (← c.is_outside.ensures, c.if-is_outside.false, ← c.is_outside-else-is_outside.ensures, c.if-is_outside-2.false)

pub returns-then-is_outside : goal.returns-then-is_outside
returns-then-is_outside c = rw (← c.is_outside.ensures, c.if-is_outside.true)

pub returns-then-is_outside-2 : goal.returns-then-is_outside-2
returns-then-is_outside-2 c =
    rw (← c.is_outside.ensures, c.if-is_outside.false, ← c.is_outside-else-is_outside.ensures, c.if-is_outside-2.true)

pub returns-then-last-first : goal.returns-then-last-first
returns-then-last-first c = rw (both_inside c.before, lt-ltb _ _ c.if-last-first.true)

pub returns-else-last-first : goal.returns-else-last-first
returns-else-last-first c = rw (both_inside c.before, le-ltb _ _ c.if-last-first.false) (more_years _ _ c.if-last-first.false)
