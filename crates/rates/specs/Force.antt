-- Which rate is in force on a day.
use Rattle.std.specs.Prelude.{ℕ, ◌≤◌, ◌≡◌, Bool, false, Option, Some, None, is_none, List, [], ◌∷◌, ltb, leb, length}
use Rattle.basics.specs.Choice.{pick}
use Rattle.basics.specs.Lists.{Every, Sorted}
use Rattle.calendar.specs.declared.Day.{Day}
use Rattle.amounts.specs.Amounts.{most_rate}
use Rattle.rates.specs.declared.RateRow.{RateRow}
use Rattle.rates.specs.declared.Rates.{Rates}
use Rattle.rates.specs.Rows.{most_rows, start_of, listed_rates, Apart}

-- F5, Rates: a row has started if its starting day is today or earlier
unfoldable pub has_started : Day → RateRow → Bool
has_started today r = leb (start_of r).0 today.0

-- F6, Rates: of a row and what was found among others, the one with the greater starting day. If both have the same
-- starting day, it is the row.
unfoldable pub or_later : RateRow → Option RateRow → Option RateRow
or_later r None = Some r
or_later r (Some s) = pick (ltb (start_of r).0 (start_of s).0) (Some s) (Some r)

-- F6, Rates; J18, Whole journals: of the rows that have started, the one with the greatest starting day. If several
-- have it, it is the first of them in the list. A book holds no two rows with the same starting day (F2), and the
-- events of a journal are listed with the latest first.
unfoldable pub in_force : Day → List RateRow → Option RateRow
in_force today [] = None
in_force today (r ∷ rs) = pick (has_started today r) (or_later r (in_force today rs)) (in_force today rs)

-- F6, Rates; R25 and R26, Refusals: whether no row has started
abbrev pub is_unset : Option RateRow → Bool
is_unset f = is_none f

-- C1, Close: the rate in force. If there is none, 26 refuses the Close, so its rate plays no part.
abbrev pub rate_of : Option RateRow → ℕ
rate_of None = 0
rate_of (Some r) = r.rate

-- O9, Open; F2 and F7, Rates: what holds of the rows of every book on its today
pub record ValidRates (today : Day) (s : Rates) : Type 0 where
  pub size : length s.rows ≡ most_rows
  pub few : s.count ≤ most_rows
  pub apart : Sorted Apart (listed_rates s)
  pub rates_most : Every (λ r. r.rate ≤ most_rate) (listed_rates s)
  pub one_started : s.count ≡ most_rows → is_unset (in_force today (listed_rates s)) ≡ false
