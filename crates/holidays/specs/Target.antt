-- The closed days of TARGET, and the call that writes them.
use Rattle.std.specs.Prelude.{ℕ, zero, suc, ◌+◌, ◌-◌, ◌*◌, ◌≤◌, Bool, ◌||◌, List, [], ◌∷◌, ◌++◌, ltb, length}
use Rattle.basics.specs.Lists.{at_front}
use Rattle.basics.specs.Refusals.{Refusal, refuse, answer, outcome, outside}
use Rattle.holidays.specs.declared.DaysWritten.{DaysWritten}
use Rattle.holidays.specs.Years.{first_year, date_of}
use Rattle.holidays.specs.Easter.{easter}

-- H11, Closed days: Good Friday is two days before Easter
unfoldable pub good_friday : ℕ → ℕ
good_friday y = easter y - 2

-- H11, Closed days: Easter Monday is the day after Easter
unfoldable pub easter_monday : ℕ → ℕ
easter_monday y = easter y + 1

-- H11, Closed days: the closed days of a year are 1 January, Good Friday, Easter Monday, 1 May, 25 and 26 December,
-- whatever day of the week they are
unfoldable pub closed_in_year : ℕ → List ℕ
closed_in_year y = date_of y 1 1 ∷ good_friday y ∷ easter_monday y ∷ date_of y 5 1 ∷ date_of y 12 25 ∷ date_of y 12 26 ∷ []

-- H12, Closed days: the closed days of n years from y on, year after year
unfoldable pub closed_from : ℕ → ℕ → List ℕ
closed_from y zero = []
closed_from y (suc n) = closed_in_year y ++ closed_from (y + 1) n

-- H12, Closed days: how many years there are from the first to the last; there are none if the last is before the first
abbrev pub years_in : ℕ → ℕ → ℕ
years_in first last = last + 1 - first

-- H12, Closed days: the closed days of all years from the first to the last
unfoldable pub target_days : ℕ → ℕ → List ℕ
target_days first last = closed_from first (years_in first last)

-- R5, Refusals: Target is refused if the list has fewer than six words for each year from the first to the last
abbrev pub too_few : ℕ → ℕ → ℕ → Bool
too_few first last words = ltb words (6 * years_in first last)

-- R23, Refusals: the last year that Target takes
abbrev pub last_year : ℕ
last_year = 2178

-- R23, Refusals: the most years that Target takes
abbrev pub most_years : ℕ
most_years = 8

-- R23, Refusals: Target is refused if a year is before 2000 or after 2178, if the last is before the first, or if there
-- are more than eight
abbrev pub bad_years : ℕ → ℕ → Bool
bad_years first last =
    outside first_year last_year first
    || (outside first_year last_year last || (ltb last first || ltb most_years (years_in first last)))

-- A3 and A18, Refusals: the refusals of Target, with this many words lent. It takes no book, so 23 is a refusal of what
-- it is given, as 5 is.
unfoldable pub target_refusals : ℕ → ℕ → ℕ → List Refusal
target_refusals first last words = refuse 5 (too_few first last words) ∷ refuse 23 (bad_years first last) ∷ []

-- A18, Refusals: the answer number of Target, with this many words lent
abbrev pub target_answer : ℕ → ℕ → ℕ → ℕ
target_answer first last words = answer (target_refusals first last words)

-- H12, Closed days: if Target is done, it returns how many days it wrote
abbrev pub target_done : ℕ → ℕ → DaysWritten
target_done first last = record { answer = 0; count = length (target_days first last) }

-- A5, Refusals: a refused Target returns its number and 0 as the number of days
abbrev pub target_refused : ℕ → DaysWritten
target_refused n = record { answer = n; count = 0 }

-- G2, Promises; H1 and H12, Closed days: the answer of Target. It is given any two years and is lent this many words,
-- and it takes no book.
unfoldable pub target : ℕ → ℕ → ℕ → DaysWritten
target first last words = outcome (target_answer first last words) (target_done first last) target_refused

-- G2, Promises; H12, Closed days; A5, Refusals: every word of the lent list as Target ends. If Target is done, the days
-- are at the front, and each word after them is as it was.
unfoldable pub target_words : ℕ → ℕ → List ℕ → List ℕ
target_words first last ws = outcome (target_answer first last (length ws)) (at_front (target_days first last) ws) (λ n. ws)

-- A year that Target takes. The functions that work on one year require it.
pub record Taken (y : ℕ) : Type 0 where
  pub from : first_year ≤ y
  pub to : y ≤ last_year
