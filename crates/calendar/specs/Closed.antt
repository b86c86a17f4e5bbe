-- The book's list of closed days.
use Rattle.std.specs.Prelude.{ℕ, ◌+◌, Bool, true, false, not, ◌&&◌, ◌≡◌, List, [], ◌∷◌, map, eqb, leb, length, take}
use Rattle.basics.specs.Choice.{pick}
use Rattle.basics.specs.Lists.{padded}
use Rattle.calendar.specs.declared.Day.{Day}
use Rattle.calendar.specs.declared.StoredDay.{StoredDay}
use Rattle.calendar.specs.declared.ClosedDays.{ClosedDays}

-- D8, Days and units: the calendar day with a number, which is not a count of clearing days
abbrev pub day : ℕ → Day
day d = record { 0 = d }

-- D8, Days and units: a calendar day as a book stores it, by the same number
abbrev pub stored_day : Day → StoredDay
stored_day d = record { 0 = d.0 }

-- D8, Days and units: the calendar day that a book stores
abbrev pub day_of : StoredDay → Day
day_of s = day s.0

-- D2, Days and units: days have numbers from 0 up to 65,535; number 0 belongs to 1 January 2000, a Saturday
abbrev pub last_day : ℕ
last_day = 65535

-- O2, Open: the days of a list are k or later, each is above the one before it, and none is above 65,535
unfoldable pub rises_from : ℕ → List ℕ → Bool
rises_from k [] = true
rises_from k (d ∷ ds) = leb k d && (leb d last_day && rises_from (d + 1) ds)

-- O2, Open: the most closed days that a book has
abbrev pub most_closed : ℕ
most_closed = 64

-- R4, Refusals: Open is refused if there are more than 64 closed days, if one is not above the one before it, or if one
-- is above 65,535
unfoldable pub closed_refused : List ℕ → Bool
closed_refused ds = not (leb (length ds) most_closed && rises_from 0 ds)

-- O2, Open: the closed days of a book that was given this list. The free places of the array hold day 0 and do not
-- count.
unfoldable pub closed_days : List ℕ → ClosedDays
closed_days ds = record { days = padded most_closed (day 0) (map day ds); count = length ds }

-- D3, Days and units: the days that the book lists as closed
unfoldable pub listed_days : ClosedDays → List Day
listed_days closed = take closed.count closed.days

-- O2, Open: each closed day of a book is above the one before it, and none is above 65,535. The count of an age
-- requires this.
unfoldable pub Rises : ClosedDays → Type 0
Rises closed = rises_from 0 (map (λ (d : Day). d.0) (listed_days closed)) ≡ true

-- whether d is one of the days of a list
unfoldable pub among : List Day → Day → Bool
among [] d = false
among (c ∷ cs) d = pick (eqb c.0 d.0) true (among cs d)
