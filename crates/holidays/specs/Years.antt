-- The years of the calendar: leap years, the months, the first day of a year, and the day of a date.
use Rattle.std.specs.Prelude.{ℕ, zero, suc, ◌+◌, ◌-◌, ◌%◌, Bool, ◌&&◌, ◌||◌, not, List, [], ◌∷◌, eqb, take}
use Rattle.basics.specs.Choice.{pick}
use Rattle.basics.specs.Lists.{sum}

-- H2, Closed days: whether a number divides a year
abbrev pub divides : ℕ → ℕ → Bool
divides n y = eqb (y % n) 0

-- H2, Closed days: a year is a leap year if 4 divides it and, if 100 does, 400 does too
unfoldable pub is_leap : ℕ → Bool
is_leap y = divides 4 y && (not (divides 100 y) || divides 400 y)

-- H3, Closed days: how many days each month of a year has, from January to December
unfoldable pub months_of : ℕ → List ℕ
months_of y = 31 ∷ pick (is_leap y) 29 28 ∷ 31 ∷ 30 ∷ 31 ∷ 30 ∷ 31 ∷ 31 ∷ 30 ∷ 31 ∷ 30 ∷ 31 ∷ []

-- D2, Days and units; H4, Closed days: day 0 is the first day of this year
abbrev pub first_year : ℕ
first_year = 2000

-- H4, Closed days: how many days the first n years have, from 2000 on
unfoldable pub days_of_years : ℕ → ℕ
days_of_years zero = 0
days_of_years (suc n) = days_of_years n + sum (months_of (first_year + n))

-- H4, Closed days: the first day of a year, which comes after all days of the years before it
unfoldable pub new_year : ℕ → ℕ
new_year y = days_of_years (y - first_year)

-- H4, Closed days: the day of a date, which is given by its year, its month and its day in the month. It comes after
-- all earlier years, after the earlier months of its year and after the earlier days of its month.
unfoldable pub date_of : ℕ → ℕ → ℕ → ℕ
date_of y month d = new_year y + sum (take (month - 1) (months_of y)) + (d - 1)
