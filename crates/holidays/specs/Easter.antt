-- Easter, as the Gregorian calendar has it.
use Rattle.std.specs.Prelude.{ℕ, zero, suc, ◌+◌, ◌-◌, ◌*◌, ◌/◌, ◌%◌, Bool, ◌&&◌, ◌||◌, eqb, ltb}
use Rattle.basics.specs.Choice.{pick}
use Rattle.holidays.specs.Years.{date_of}

-- H5, Closed days: the golden number is the remainder of the year by 19, with 1 added
abbrev pub golden : ℕ → ℕ
golden y = y % 19 + 1

-- H6, Closed days: the century's number is a hundredth of the year, rounded down, with 1 added: 21 from 2000 to 2099
abbrev pub century : ℕ → ℕ
century y = y / 100 + 1

-- H6, Closed days: the sun's correction is 3/4 of the century's number, rounded down, less 12. It grows by one with
-- each century whose first year is no leap year.
unfoldable pub sun_correction : ℕ → ℕ
sun_correction y = 3 * century y / 4 - 12

-- H6, Closed days: the moon's correction is 8 times the century's number, plus 5, divided by 25 and rounded down, less
-- 5. It grows by one eight times in 25 centuries.
unfoldable pub moon_correction : ℕ → ℕ
moon_correction y = (8 * century y + 5) / 25 - 5

-- H7, Closed days: the epact before its exceptions. It is the remainder by 30 of 11 times the golden number, plus 20,
-- plus the moon's correction, less the sun's. The sun's is first added 30 times, so that the difference is never below
-- zero.
unfoldable pub plain_epact : ℕ → ℕ
plain_epact y = (11 * golden y + 20 + moon_correction y + 30 * sun_correction y - sun_correction y) % 30

-- H8, Closed days: the two exceptions are the epact 24, and the epact 25 if the golden number is above 11
abbrev pub excepted : ℕ → ℕ → Bool
excepted e g = eqb e 24 || (eqb e 25 && ltb 11 g)

-- H8, Closed days: in each exception the epact is one more
unfoldable pub epact : ℕ → ℕ
epact y = pick (excepted (plain_epact y) (golden y)) (plain_epact y + 1) (plain_epact y)

-- H9, Closed days: a new moon falls on the day 31 - epact of March, and the full moon is 13 days later
unfoldable pub march_moon : ℕ → ℕ
march_moon y = date_of y 3 (31 - epact y) + 13

-- H9, Closed days: the paschal full moon is this full moon or, if this one is before 21 March, the one that is 30 days
-- later
unfoldable pub full_moon : ℕ → ℕ
full_moon y = pick (ltb (march_moon y) (date_of y 3 21)) (march_moon y + 30) (march_moon y)

-- D2, Days and units: day 0 is a Saturday, so the number of a Sunday leaves 1 when it is divided by 7
abbrev pub is_sunday : ℕ → Bool
is_sunday d = eqb (d % 7) 1

-- H10, Closed days: the first Sunday among the k days from day d on, or the day after them if none of them is one
unfoldable pub sunday_from : ℕ → ℕ → ℕ
sunday_from zero d = d
sunday_from (suc k) d = pick (is_sunday d) d (sunday_from k (d + 1))

-- H10, Closed days: Easter is the first Sunday after the paschal full moon. If none of the first six days after the
-- full moon is a Sunday, the seventh is.
unfoldable pub easter : ℕ → ℕ
easter y = sunday_from 6 (full_moon y + 1)
