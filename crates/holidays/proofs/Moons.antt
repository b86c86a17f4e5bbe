-- The epact, the paschal full moon and Easter: how early and how late they are.
use Prim.Native.Nat.{ℕ, ◌+◌, ◌-◌, ◌*◌, ◌%◌, ◌≤◌, ◌<◌}
use native.Mathlib.Omega.{arith}
use mathlib.Core.Path.{◌≡◌, refl, ap}
use mathlib.Core.Bool.{Bool, true, false, ◌&&◌, ◌||◌}
use mathlib.Core.Logic.{⊎_elim}
use lib.Dec.{eqb, ltb}
use borrow.Author.Tests.{eqb-true, eqb-false, lt-ltb, le-ltb, eq-eqb, ne_eqb}
use Rattle.basics.specs.Choice.{pick}
use Rattle.basics.proofs.Cases.{below_or_not, and_no}
use Rattle.holidays.specs.Years.{first_year, date_of}
use Rattle.holidays.specs.Easter.{golden, plain_epact, epact, march_moon, full_moon, easter}
use Rattle.holidays.specs.Target.{Taken}
use Rattle.holidays.proofs.Years.{dates, march_early}
use Rattle.holidays.proofs.Sundays.{FirstSunday, is_first_sunday}

-- ---- the epact
-- a remainder by 30 is at most 29
plain_most : (y : ℕ) → plain_epact y ≤ 29
unfolding plain_epact
plain_most y = omega arith

-- 30 times a number need not be added before the number is taken off, if what it is taken off is not smaller
pub taken_off : (a s : ℕ) → s ≤ a → (a - s) % 30 ≡ (a + 30 * s - s) % 30
taken_off a s l = omega arith

-- the epact in each exception, and in the two cases where there is none
module _ (y : ℕ) where
  pub first_exception : plain_epact y ≡ 24 → epact y ≡ 25
  unfolding epact
  first_exception e = rw (eq-eqb (plain_epact y) 24 e) (omega arith)

  pub second_exception : plain_epact y ≡ 25 → 11 < golden y → epact y ≡ 26
  unfolding epact
  second_exception e l = rw (ne_eqb (plain_epact y) 24 (λ z. omega arith), eq-eqb (plain_epact y) 25 e, lt-ltb 11 (golden y) l) (omega arith)

  pub not_25 : (plain_epact y ≡ 24 → ⊥) → (plain_epact y ≡ 25 → ⊥) → epact y ≡ plain_epact y
  unfolding epact
  not_25 n m = rw (ne_eqb (plain_epact y) 24 n, ne_eqb (plain_epact y) 25 m)

  pub not_golden : (plain_epact y ≡ 24 → ⊥) → golden y ≤ 11 → epact y ≡ plain_epact y
  unfolding epact
  not_golden n l = rw (ne_eqb (plain_epact y) 24 n, le-ltb 11 (golden y) l, and_no (eqb (plain_epact y) 25))

-- ---- how large epacts are
-- an epact is at most 29, and it is never 24
pub record Epact (e : ℕ) : Type 0 where
  pub most : e ≤ 29
  pub not_24 : e ≡ 24 → ⊥

pub epact_is : (y : ℕ) → Epact (epact y)
unfolding epact
epact_is y = by (eqb (plain_epact y) 24) (eqb (plain_epact y) 25) (ltb 11 (golden y)) refl refl
  where
    by : (a b c : Bool) → eqb (plain_epact y) 24 ≡ a → eqb (plain_epact y) 25 ≡ b → Epact (pick (a || (b && c)) (plain_epact y + 1) (plain_epact y))
    by true b c e f = let is = eqb-true (plain_epact y) 24 e in record { most = omega arith; not_24 = λ z. omega arith }
    by false true true e f = let is = eqb-true (plain_epact y) 25 f in record { most = omega arith; not_24 = λ z. omega arith }
    by false true false e f = let is = eqb-true (plain_epact y) 25 f in record { most = omega arith; not_24 = λ z. omega arith }
    by false false c e f = record { most = plain_most y; not_24 = eqb-false (plain_epact y) 24 e }

-- ---- the paschal full moon
module _ (y : ℕ) (h : first_year ≤ y) where
  -- the full moon of the lunar month that begins in March
  march_moon_lem : march_moon y ≡ date_of y 3 1 + (43 - epact y)
  unfolding march_moon
  march_moon_lem =
      let d : 31 - epact y ≡ 30 - epact y + 1 = omega (arith, (epact_is y).most) in
      let e = (dates y h).march (30 - epact y) in
      omega (arith, ap (date_of y 3) d, (epact_is y).most)

  -- It is the paschal one if it is on 21 March or later. If it is earlier, the next one is.
  module _ (march e : ℕ) (f : march ≡ date_of y 3 1) (g : e ≡ epact y) where
    pub moon_late : 20 ≤ 43 - e → march + (43 - e) ≡ full_moon y
    unfolding full_moon
    moon_late l =
        rw (le-ltb (march_moon y) (date_of y 3 21) (omega (arith, march_moon_lem, (dates y h).march 20))) (omega (arith, march_moon_lem))

    pub moon_early : 43 - e < 20 → march + (43 - e) + 30 ≡ full_moon y
    unfolding full_moon
    moon_early l =
        rw (lt-ltb (march_moon y) (date_of y 3 21) (omega (arith, march_moon_lem, (dates y h).march 20))) (omega (arith, march_moon_lem))

  -- the paschal full moon is not before 21 March and not after 18 April
  pub moon_span : (date_of y 3 1 + 20 ≤ full_moon y) × (full_moon y ≤ date_of y 3 1 + 48)
  moon_span =
      let e = epact_is y in
      ⊎_elim
      (λ (l : 43 - epact y < 20). let m = moon_early (date_of y 3 1) (epact y) refl refl l in (omega arith, omega (arith, e.most, e.not_24)))
      (λ (l : 20 ≤ 43 - epact y). let m = moon_late (date_of y 3 1) (epact y) refl refl l in (omega arith, omega (arith, e.most)))
      (below_or_not (43 - epact y) 20)

-- ---- Easter
-- Easter is the first Sunday after the paschal full moon: later than it, a Sunday, and no Sunday lies between the two
pub easter_sunday : (y : ℕ) → FirstSunday (full_moon y) (easter y)
unfolding easter
easter_sunday y = is_first_sunday (full_moon y)

module _ (y : ℕ) (h : first_year ≤ y) where
  -- Easter is 21 to 55 days after 1 March
  pub after_march : (date_of y 3 1 + 21 ≤ easter y) × (easter y ≤ date_of y 3 1 + 55)
  after_march =
      let s = easter_sunday y in
      let m = moon_span y h in
      (omega (arith, m.0, s.later), omega (arith, m.1, s.soon))

  -- so it is not before 22 March and not after 25 April
  pub easter_span : (date_of y 3 22 ≤ easter y) × (easter y ≤ date_of y 4 25)
  easter_span = (
    omega (arith, after_march.0, (dates y h).march 21),
    omega (arith, after_march.1, (dates y h).april 24),
  )

-- the full moon of a year that is taken is not after day 65,583
pub moon_most : (y : ℕ) → Taken y → full_moon y ≤ 65583
moon_most y t = omega (arith, (moon_span y t.from).1, march_early y t)
