-- The rates of a book, each with its starting day, as the book holds them.
use Rattle.std.specs.Prelude.{ℕ, ◌+◌, ◌≡◌, Bool, false, ◌||◌, List, [], ◌∷◌, eqb, length, take, replicate}
use Rattle.basics.specs.Choice.{pick}
use Rattle.basics.specs.Lists.{at_front}
use Rattle.calendar.specs.declared.Day.{Day}
use Rattle.calendar.specs.Closed.{day, stored_day, day_of}
use Rattle.rates.specs.declared.RateRow.{RateRow}
use Rattle.rates.specs.declared.Rates.{Rates}

-- F2, Rates: the most rows that a book holds
abbrev pub most_rows : ℕ
most_rows = 16

-- F1, Rates: the row with a starting day and a rate
abbrev pub row_of : Day → ℕ → RateRow
row_of start rate = record { start = stored_day start; rate = rate }

-- F1, Rates: the starting day of a row
abbrev pub start_of : RateRow → Day
start_of r = day_of r.start

-- F3, Rates: whether one of the rows has this starting day
unfoldable pub holds : Day → List RateRow → Bool
holds d [] = false
holds d (r ∷ rs) = eqb (start_of r).0 d.0 || holds d rs

-- F3 and F4, Rates: the rows after a further one was entered. It takes the place of the row with the same starting day,
-- or the first free place if there is none. All other rows stay.
unfoldable pub with_row : RateRow → List RateRow → List RateRow
with_row x [] = x ∷ []
with_row x (r ∷ rs) = pick (eqb (start_of r).0 (start_of x).0) (x ∷ rs) (r ∷ with_row x rs)

-- F3 and F4, Rates: the rows after these were entered one after another, the latest of which is at the head of the list
unfoldable pub entered_rows : List RateRow → List RateRow
entered_rows [] = []
entered_rows (x ∷ earlier) = with_row x (entered_rows earlier)

-- F3, Rates: the place of the row with this starting day, or the first free place if there is no such row
unfoldable pub place_of : Day → List RateRow → ℕ
place_of d [] = 0
place_of d (r ∷ rs) = pick (eqb (start_of r).0 d.0) 0 (place_of d rs + 1)

-- what fills a free place among the rows of a book
abbrev pub no_row : RateRow
no_row = row_of (day 0) 0

-- O5, Open; F2, Rates: a fresh book holds no row
abbrev pub no_rates : Rates
no_rates = record { rows = replicate most_rows no_row; count = 0 }

-- F2, Rates: the rows that a book holds; the places after them are free
abbrev pub listed_rates : Rates → List RateRow
listed_rates s = take s.count s.rows

-- F3, Rates: the rates of a book after a further row was entered; the free places after the rows stay as they were
unfoldable pub with_rate : RateRow → Rates → Rates
with_rate x s = record { rows = at_front (with_row x (listed_rates s)) s.rows; count = length (with_row x (listed_rates s)) }

-- F1, Rates: two rows have different starting days
abbrev pub Apart : RateRow → RateRow → Type 0
Apart r s = (start_of r).0 ≡ (start_of s).0 → ⊥
