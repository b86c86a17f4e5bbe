-- How many days years have, and how the dates of a year lie.
use Prim.Native.Nat.{ℕ, zero, suc, ◌+◌, ◌-◌, ◌*◌, ◌/◌, ◌%◌, ◌≤◌, ◌<◌}
use native.Mathlib.Nat.{zero-mul, suc-mul, div-add-mod', mod-lt, div-eq_of_lt-le}
use native.Mathlib.Omega.{arith}
use mathlib.Core.Path.{◌≡◌, refl, ap, ◌∙◌}
use mathlib.Core.Bool.{Bool, true, false, not, ◌&&◌, ◌||◌}
use borrow.Author.Tests.{eqb-true, eqb-false, eq-eqb}
use Rattle.basics.specs.Choice.{pick}
use Rattle.basics.specs.Lists.{sum, total}
use Rattle.basics.proofs.Cases.{never, pick_case}
use Rattle.calendar.specs.Closed.{last_day}
use Rattle.holidays.specs.Years.{divides, is_leap, months_of, first_year, days_of_years, new_year, date_of}
use Rattle.holidays.specs.Target.{last_year, Taken}

-- ---- the days of years
-- the days of February
abbrev february : ℕ → ℕ
february y = pick (is_leap y) 29 28

-- the other months have 337 days together
year_days : (y : ℕ) → sum (months_of y) ≡ 337 + february y
unfolding months_of total
year_days y = omega arith

-- From m to m + 1 a quotient grows by one if the divisor divides m + 1, and else it stays.
module _ (d m : ℕ) where
  -- the quotient of m is k if m lies between these limits
  quotient : (k : ℕ) → k * suc d ≤ m → m < k * suc d + suc d → m / suc d ≡ k
  quotient k l u = div-eq_of_lt-le (suc d) l (omega (arith, suc-mul k (suc d)))

  -- if m + 1 is k times the divisor, the quotient of m is one less than k
  reached : (k : ℕ) → k * suc d ≡ suc m → k ≡ m / suc d + 1
  reached zero e = absurd (omega (arith, zero-mul (suc d)))
  reached (suc k) e = let s = suc-mul k (suc d) in omega (arith, quotient k (omega arith) (omega arith))

  multiples : suc m / suc d ≡ m / suc d + pick (divides (suc d) (suc m)) 1 0
  multiples = by (divides (suc d) (suc m)) refl (div-add-mod' (suc m) (suc d)) (mod-lt (suc m) (omega arith))
    where
      by : (t : Bool) → divides (suc d) (suc m) ≡ t → suc m / suc d * suc d + suc m % suc d ≡ suc m → suc m % suc d < suc d
          → suc m / suc d ≡ m / suc d + pick t 1 0
      by true e s l = let z = eqb-true (suc m % suc d) 0 e in reached (suc m / suc d) (omega arith)
      by false e s l =
          let z = eqb-false (suc m % suc d) 0 e in
          omega (arith, quotient (suc m / suc d) (omega arith) (omega arith))

-- The leap years up to a year, by arithmetic: one year in four, and of the hundredth years only one in four.
unfoldable pub leap_years : ℕ → ℕ
leap_years y = y / 4 + y / 400 - y / 100

-- the leap years up to a year, as code adds them to a number
leaps_added : (x y : ℕ) → x + y / 4 + y / 400 - y / 100 ≡ x + leap_years y
unfolding leap_years
leaps_added x y = by (y / 4) (y / 100) (y / 400) (omega arith)
  where
    by : (p q r : ℕ) → q ≤ p → x + p + r - q ≡ x + (p + r - q)
    by p q r l = omega arith

-- a leap year counts, and no other year does
leap_days : (m : ℕ) → february (suc m) + leap_years m ≡ 28 + leap_years (suc m)
unfolding is_leap leap_years
leap_days m =
    by (divides 4 (suc m)) (divides 100 (suc m)) (divides 400 (suc m))
    (λ e. eq-eqb (suc m % 4) 0 (omega (arith, eqb-true (suc m % 100) 0 e)))
    (λ e. eq-eqb (suc m % 100) 0 (omega (arith, eqb-true (suc m % 400) 0 e)))
    (m / 4) (suc m / 4) (multiples 3 m)
    (m / 100) (suc m / 100) (multiples 99 m)
    (m / 400) (suc m / 400) (multiples 399 m)
    (omega arith)
  where
    by : (a b c : Bool) → (b ≡ true → a ≡ true) → (c ≡ true → b ≡ true)
        → (p p' : ℕ) → p' ≡ p + pick a 1 0 → (q q' : ℕ) → q' ≡ q + pick b 1 0 → (r r' : ℕ) → r' ≡ r + pick c 1 0 → q ≤ p
        → pick (a && (not b || c)) 29 28 + (p + r - q) ≡ 28 + (p' + r' - q')
    by true true true i j p p' x q q' y r r' z l = omega arith
    by true true false i j p p' x q q' y r r' z l = omega arith
    by true false true i j p p' x q q' y r r' z l = absurd (never (j refl))
    by true false false i j p p' x q q' y r r' z l = omega arith
    by false true c i j p p' x q q' y r r' z l = absurd (never (i refl))
    by false false true i j p p' x q q' y r r' z l = absurd (never (j refl))
    by false false false i j p p' x q q' y r r' z l = omega arith

-- there were 484 leap years before 2000 by the same rule
leaps_before : leap_years 1999 ≡ 484
unfolding leap_years
leaps_before = refl

-- the days of the first n years, by arithmetic
by_years : (n : ℕ) → days_of_years n + 484 ≡ 365 * n + leap_years (1999 + n)
unfolding days_of_years
by_years zero = omega (arith, leaps_before)
by_years (suc n) =
    let year : suc (1999 + n) ≡ first_year + n = omega arith in
    let next : suc (1999 + n) ≡ 1999 + suc n = omega arith in
    omega (arith, by_years n, year_days (first_year + n), leap_days (1999 + n), ap february year, ap leap_years next)

-- the first day of a year, by arithmetic
year_begins : (y : ℕ) → first_year ≤ y → new_year y + 484 ≡ 365 * (y - first_year) + leap_years (y - 1)
unfolding new_year
year_begins y h =
    let e : 1999 + (y - first_year) ≡ y - 1 = omega arith in
    rw e at (by_years (y - first_year))

-- the same as code has it, before the leap years until 2000 are taken off
abbrev coded : ℕ → ℕ
coded y = 365 * (y - first_year) + (y - 1) / 4 + (y - 1) / 400 - (y - 1) / 100

module _ (y : ℕ) (h : first_year ≤ y) where
  pub coded_enough : 484 ≤ coded y
  coded_enough = rw (leaps_added (365 * (y - first_year)) (y - 1)) (omega (arith, year_begins y h))

  pub coded_year : coded y - 484 ≡ new_year y
  coded_year = rw (leaps_added (365 * (y - first_year)) (y - 1)) (omega (arith, year_begins y h))

-- ---- the dates of a year
-- February has 28 or 29 days
february_days : (y : ℕ) → (28 ≤ february y) × (february y ≤ 29)
february_days y =
    pick_case (λ (n : ℕ). (28 ≤ n) × (n ≤ 29)) (is_leap y) 29 28
    (λ e. (omega arith, omega arith))
    (λ e. (omega arith, omega arith))

-- a year begins after all days of the year before it
year_more : (y : ℕ) → first_year ≤ y → new_year (y + 1) ≡ new_year y + sum (months_of y)
unfolding new_year days_of_years
year_more y h =
    let next : y + 1 - first_year ≡ suc (y - first_year) = omega arith in
    let same : first_year + (y - first_year) ≡ y = omega arith in
    ap days_of_years next ∙ ap (λ (x : ℕ). days_of_years (y - first_year) + sum (months_of x)) same

-- how the dates of a year lie
pub record Dates (y : ℕ) : Type 0 where
  pub january : date_of y 1 1 ≡ new_year y
  pub february : new_year y + 59 ≤ date_of y 3 1
  pub march : (d : ℕ) → date_of y 3 (d + 1) ≡ date_of y 3 1 + d
  pub april : (d : ℕ) → date_of y 4 (d + 1) ≡ date_of y 3 1 + 31 + d
  pub may : date_of y 5 1 ≡ date_of y 3 1 + 61
  pub december_25 : date_of y 12 25 ≡ date_of y 3 1 + 299
  pub december_26 : date_of y 12 26 ≡ date_of y 3 1 + 300
  pub next : new_year (y + 1) ≡ date_of y 3 1 + 306

pub dates : (y : ℕ) → first_year ≤ y → Dates y
unfolding date_of months_of total
dates y h =
    let days = february_days y in
    record {
      january = omega arith;
      february = omega arith;
      march = λ d. omega arith;
      april = λ d. omega arith;
      may = omega arith;
      december_25 = omega arith;
      december_26 = omega arith;
      next = omega (arith, year_more y h, year_days y);
    }

-- ---- years that Target takes
-- no year up to 2179 begins after day 65,535
pub begins_early : (y : ℕ) → first_year ≤ y → y ≤ last_year + 1 → new_year y ≤ last_day
unfolding leap_years
begins_early y h l = omega (arith, year_begins y h)

-- so 1 March of a year that is taken is not after that day
pub march_early : (y : ℕ) → Taken y → date_of y 3 1 ≤ last_day
march_early y t = omega (arith, begins_early (y + 1) (omega (arith, t.from)) (omega (arith, t.to)), (dates y t.from).next)

-- the year after one that is taken begins 306 days after 1 March
pub next_begins : (y : ℕ) → Taken y → new_year (y + 1) ≡ date_of y 3 1 + 306
next_begins y t = (dates y t.from).next
