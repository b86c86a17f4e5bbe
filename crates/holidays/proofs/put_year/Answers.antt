-- `put_year` meets its contract: six stores, one row each.
use Prim.Native.Nat.{ℕ, ◌≤◌}
use native.Mathlib.Omega.{arith}
use mathlib.Core.Path.{◌≡◌, ap, ◌∙◌}
use lib.Seq.{sets}
use Rattle.basics.proofs.Stores.{six_stores}
use Rattle.holidays.proofs.Years.{march_early}
use Rattle.holidays.proofs.Moons.{after_march}
use Rattle.holidays.proofs.Rising.{by_march}
use Rattle.holidays.specs.Years.{date_of}
use Rattle.holidays.specs.Easter.{easter}
use Rattle.holidays.specs.Target.{Taken}
use Rattle.holidays.proofs.put_year.Goals as goal

-- 1 March is not above 65,535
march_from : (year march : ℕ) → Taken year → march ≡ date_of year 3 1 → march ≤ 65535
march_from year march t e = omega (arith, e, march_early year t)

-- Easter has two days before it, and it comes soon after 1 March
sunday_from : (year march sunday : ℕ) → Taken year → march ≡ date_of year 3 1 → sunday ≡ easter year
    → (2 ≤ sunday) × (sunday ≤ 65590)
sunday_from year march sunday t m e =
    let span = after_march year t.from in
    (omega (arith, e, span.0), omega (arith, e, span.1, march_from year march t m, m))

pub overflow_sub-days : goal.overflow_sub-days
overflow_sub-days c =
    (sunday_from c.args.year.number _ _ c.args.year.taken c.first_of_march-march.ensures c.easter-sunday.ensures).0

pub overflow_add-days-2 : goal.overflow_add-days-2
overflow_add-days-2 c =
    let s = sunday_from c.args.year.number _ _ c.args.year.taken c.first_of_march-march.ensures c.easter-sunday.ensures in
    record { fits = omega (arith, s.1) }

pub overflow_add-days-4 : goal.overflow_add-days-4
overflow_add-days-4 c =
    record { fits = omega (arith, march_from c.args.year.number _ c.args.year.taken c.first_of_march-march.ensures) }

pub overflow_add-days-6 : goal.overflow_add-days-6
overflow_add-days-6 c =
    record { fits = omega (arith, march_from c.args.year.number _ c.args.year.taken c.first_of_march-march.ensures) }

pub overflow_add-days-8 : goal.overflow_add-days-8
overflow_add-days-8 c =
    record { fits = omega (arith, march_from c.args.year.number _ c.args.year.taken c.first_of_march-march.ensures) }

pub returns : goal.returns
returns c =
    six_stores c.args.days.now c.args.at _ _ _ _ _ _
    ∙ ap (sets c.args.days.now c.args.at)
    (by_march c.args.year.number c.args.year.taken.from _ _ _ c.new_year.ensures c.first_of_march-march.ensures c.easter-sunday.ensures)
