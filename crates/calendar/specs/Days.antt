-- Clearing days, and how they are counted.
use Rattle.std.specs.Prelude.{ℕ, zero, suc, ◌+◌, ◌-◌, ◌%◌, Bool, not, ◌&&◌, List, [], ◌∷◌, leb, ltb, Option, Some, None}
use Rattle.basics.specs.Choice.{pick}
use Rattle.calendar.specs.declared.Day.{Day}
use Rattle.calendar.specs.declared.ClearingDays.{ClearingDays}
use Rattle.calendar.specs.Closed.{day, last_day, among}

-- D8, Days and units: a count of clearing days, or an age, which is not a calendar day
abbrev pub clearing_days : ℕ → ClearingDays
clearing_days n = record { 0 = n }

-- D3, Days and units: a day is a clearing day if its number leaves 2 to 6 when it is divided by 7, which makes it one
-- of Monday to Friday, and it is not closed; cs are the closed days
unfoldable pub clearing : List Day → Day → Bool
clearing cs d = leb 2 (d.0 % 7) && not (among cs d)

-- the first clearing day of the k days after d
unfoldable pub next_within : List Day → ℕ → ℕ → Option Day
next_within cs zero d = None
next_within cs (suc k) d = pick (clearing cs (day (d + 1))) (Some (day (d + 1))) (next_within cs k (d + 1))

-- D4, Days and units: the next clearing day after d, if there is one up to 65,535
unfoldable pub next_after : List Day → Day → Option Day
next_after cs d = next_within cs (last_day - d.0) d.0

-- D6 and D7, Days and units: the next clearing day after one that was looked for; if there was none, there is none
unfoldable pub next_of : List Day → Option Day → Option Day
next_of cs (Some d) = next_after cs d
next_of cs None = None

-- D5 and D6, Days and units: d is its own 0-th clearing day, and every further one is the next after the one before it
unfoldable pub nth_from : List Day → Day → ℕ → Option Day
nth_from cs d zero = Some d
nth_from cs d (suc n) = next_of cs (nth_from cs d n)

-- D5 to D8, Days and units: the n-th clearing day after d, where n is a count of clearing days
unfoldable pub nth_after : List Day → Day → ClearingDays → Option Day
nth_after cs d n = nth_from cs d n.0

-- how many of the k days after d are clearing days
unfoldable pub clearing_within : List Day → ℕ → ℕ → ℕ
clearing_within cs d zero = 0
clearing_within cs d (suc k) = clearing_within cs d k + pick (clearing cs (day (d + suc k))) 1 0

-- B1, Buy-in: the age counts the clearing days that are later than J and not later than today
unfoldable pub age_at : List Day → Day → Day → ClearingDays
age_at cs j today = clearing_days (clearing_within cs j.0 (today.0 - j.0))

-- How many weekdays there are up to day n, as if no day were closed. This states no rule: the code works out an age as
-- the weekdays between two days, less the closed days among them.
unfoldable pub weekdays_to : ℕ → ℕ
weekdays_to n = clearing_within [] 0 n

-- Whether closed day c is a weekday that is later than one day and not later than another. This states no rule: the
-- code takes such a day off an age.
unfoldable pub takes_away : Day → Day → Day → Bool
takes_away c after to = ltb after.0 c.0 && (leb c.0 to.0 && leb 2 (c.0 % 7))

-- How many closed days are weekdays that are later than one day and not later than another. This states no rule: the
-- code takes them off an age.
unfoldable pub closed_between : List Day → Day → Day → ℕ
closed_between [] after to = 0
closed_between (c ∷ cs) after to = pick (takes_away c after to) 1 0 + closed_between cs after to
