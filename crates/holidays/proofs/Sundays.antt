-- The first Sunday from a day on.
use Prim.Native.Nat.{ℕ, zero, suc, ◌+◌, ◌-◌, ◌%◌, ◌≤◌, ◌<◌}
use native.Mathlib.Omega.{arith}
use mathlib.Core.Path.{◌≡◌, refl}
use mathlib.Core.Bool.{Bool, true, false}
use borrow.Author.Tests.{eqb-true, eqb-false}
use Rattle.basics.specs.Choice.{pick}
use Rattle.holidays.specs.Easter.{is_sunday, sunday_from}

-- how many days it is from a day to the first Sunday from it on
abbrev to_sunday : ℕ → ℕ
to_sunday d = (8 - d % 7) % 7

-- if the search goes far enough, it finds that Sunday
found : (k d : ℕ) → to_sunday d ≤ k → sunday_from k d ≡ d + to_sunday d
unfolding sunday_from
found zero d h = omega arith
found (suc k) d h = by (is_sunday d) refl (found k (d + 1))
  where
    by : (t : Bool) → is_sunday d ≡ t → (to_sunday (d + 1) ≤ k → sunday_from k (d + 1) ≡ d + 1 + to_sunday (d + 1))
        → pick t d (sunday_from k (d + 1)) ≡ d + to_sunday d
    by true e on = omega (arith, eqb-true (d % 7) 1 e)
    by false e on = let no = eqb-false (d % 7) 1 e in omega (arith, on (omega arith))

-- within six days it goes far enough
first_sunday : (d : ℕ) → sunday_from 6 d ≡ d + to_sunday d
first_sunday d = found 6 d (omega arith)

-- the first Sunday after a day, by arithmetic
pub sunday_after : (d : ℕ) → sunday_from 6 (d + 1) ≡ d + 7 - (d + 6) % 7
sunday_after d = omega (arith, first_sunday (d + 1))

-- the first Sunday after a day: it is later than the day, a Sunday, and no day between the two is a Sunday
pub record FirstSunday (d s : ℕ) : Type 0 where
  pub later : d < s
  pub soon : s ≤ d + 7
  pub sunday : s % 7 ≡ 1
  pub first : (x : ℕ) → d < x → x < s → x % 7 ≡ 1 → ⊥

pub is_first_sunday : (d : ℕ) → FirstSunday d (sunday_from 6 (d + 1))
is_first_sunday d =
    let e = sunday_after d in
    record { later = omega arith; soon = omega arith; sunday = omega arith; first = λ x l m s. omega arith }
