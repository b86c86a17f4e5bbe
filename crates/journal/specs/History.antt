-- What a book stores besides its obligations, told by the events alone. The latest event comes first.
use Rattle.std.specs.Prelude.{ℕ, ◌+◌, ◌-◌, Bool, true, false, ◌&&◌, not, List, [], ◌∷◌, ◌++◌, eqb, get_or, set, Option, None, Some}
use Rattle.basics.specs.Choice.{pick}
use Rattle.offers.specs.declared.Offer.{Offer}
use Rattle.rates.specs.declared.RateRow.{RateRow}
use Rattle.rates.specs.Force.{in_force}
use Rattle.instructions.specs.declared.Leg.{Leg}
use Rattle.instructions.specs.declared.LegState.{LegState}
use Rattle.instructions.specs.declared.LegState.TheVariants.{Withdrawn, Matched}
use Rattle.instructions.specs.Legs.{no_leg, in_state}
use Rattle.instructions.specs.Match.{Fit, delivering, first_fit}
use Rattle.closing.specs.declared.Line.{Line}
use Rattle.journal.specs.Calls.{Opening, Event}
use Rattle.journal.specs.Facts.{LegChange, enters, withdraws, neither, is_end, reported, facts}
use Rattle.journal.specs.Sums.{today_in, or_else, is_month}

-- ---- Close
-- R21, Refusals: whether a Close was accepted since the start or since the last accepted Month
unfoldable pub close_since_in : List Event → Bool
close_since_in [] = false
close_since_in (e ∷ es) = pick (is_end (facts e).ends) true (pick (is_month (facts e).collects) false (close_since_in es))

-- N2 and N3, Again: the latest accepted Close, if there was one
unfoldable pub latest_close : List Event → Option Event
latest_close [] = None
latest_close (e ∷ es) = pick (is_end (facts e).ends) (Some e) (latest_close es)

-- R22, Refusals: whether there was a Close
abbrev pub was_close : Option Event → Bool
was_close None = false
was_close (Some e) = true

-- N2 and N4, Again: the lines that the latest Close reported; there are none if there was no Close
abbrev pub latest_lines : Option Event → List Line
latest_lines None = []
latest_lines (Some e) = reported (facts e).ends

-- B5, Buy-in: the offers since the last accepted Close, the latest first. An accepted Close removes them.
unfoldable pub offers_in : List Event → List Offer
offers_in [] = []
offers_in (e ∷ es) = pick (is_end (facts e).ends) [] ((facts e).offers ++ offers_in es)

-- ---- Rate
-- F3, Rates: the rows of the accepted Rates, the latest first
unfoldable pub rates_in : List Event → List RateRow
rates_in [] = []
rates_in (e ∷ es) = (facts e).rates ++ rates_in es

-- J18, Whole journals: the row in force after these events: of the accepted Rates whose starting day is not after
-- today, the one with the greatest starting day, and the latest of those with this day
unfoldable pub force_in : Opening → List Event → Option RateRow
force_in o es = in_force (today_in o es) (rates_in es)

-- ---- Enter and Withdraw
-- the legs with leg k in another state
abbrev pub leg_into_state : ℕ → LegState → List Leg → List Leg
leg_into_state k state ls = set ls k (in_state state (get_or ls k no_leg))

-- E10, Enter: the legs after an Enter that returned this number for its obligation. If no leg fits, the new one waits,
-- and if one fits, both are matched to the obligation.
abbrev pub legs_with : Leg → ℕ → Fit → List Leg → List Leg
legs_with new obligation None ls = ls ++ new ∷ []
legs_with new obligation (Some k) ls =
    leg_into_state k (Matched (obligation - 1)) ls ++ in_state (Matched (obligation - 1)) new ∷ []

-- E5, Enter; T1, Withdraw: what a change makes of the legs. A new leg matches the waiting leg with the lowest number
-- that fits.
abbrev pub legs_after : LegChange → List Leg → List Leg
legs_after (enters leg obligation new) ls = legs_with new obligation (first_fit new 0 ls) ls
legs_after (withdraws k) ls = leg_into_state k Withdrawn ls
legs_after neither ls = ls

-- E2 and E3, Enter: the legs entered so far, numbered from 0, each of them waiting, withdrawn or matched
unfoldable pub legs_in : List Event → List Leg
legs_in [] = []
legs_in (e ∷ es) = legs_after (facts e).legs (legs_in es)

-- E8, Enter: the amount of the delivering one of a new leg and the leg that it matches; a leg that matches none has its
-- own
abbrev pub amount_with : Leg → Fit → List Leg → ℕ
amount_with new None ls = new.amount
amount_with new (Some k) ls = (delivering new (get_or ls k no_leg)).amount

-- E8, Enter: the amount of obligation n, if a change makes this obligation; these are the legs before the change
abbrev pub amount_by : ℕ → LegChange → List Leg → Option ℕ
amount_by n (enters leg obligation new) ls = pick (eqb obligation (n + 1)) (Some (amount_with new (first_fit new 0 ls) ls)) None
amount_by n (withdraws k) ls = None
amount_by n neither ls = None

-- E8, Enter: the amount of obligation n, if an accepted Enter returned its number plus 1
unfoldable pub amount_in : ℕ → List Event → Option ℕ
amount_in n [] = None
amount_in n (e ∷ es) = or_else (amount_by n (facts e).legs (legs_in es)) (amount_in n es)

-- E11, Enter: the leg that a change enters under number n
abbrev pub entered_as : ℕ → LegChange → Option Leg
entered_as n (enters leg obligation new) = pick (eqb leg n) (Some new) None
entered_as n (withdraws k) = None
entered_as n neither = None

-- E11, Enter: leg n as it was instructed, if an accepted Enter returned its number
unfoldable pub leg_in : ℕ → List Event → Option Leg
leg_in n [] = None
leg_in n (e ∷ es) = or_else (entered_as n (facts e).legs) (leg_in n es)

-- whether leg n is the leg that fits
abbrev pub is_fit : ℕ → Fit → Bool
is_fit n None = false
is_fit n (Some k) = eqb k n

-- E10, Enter; T1, Withdraw: whether leg n waits after a change, if these are the legs before it and the last argument
-- says whether leg n waited then. A leg that is entered waits unless its Enter returned an obligation. Any other leg
-- goes on waiting unless it is withdrawn or a new leg matches it.
abbrev pub waits_after : ℕ → LegChange → List Leg → Bool → Bool
waits_after n (enters leg obligation new) ls waited = pick (eqb leg n) (eqb obligation 0) (not (is_fit n (first_fit new 0 ls)) && waited)
waits_after n (withdraws k) ls waited = not (eqb k n) && waited
waits_after n neither ls waited = waited

-- E3 and E12, Enter: whether leg n waits: an accepted Enter returned it and found no match, and since then no accepted
-- Withdraw named it and no accepted Enter matched it
unfoldable pub waiting_in : ℕ → List Event → Bool
waiting_in n [] = false
waiting_in n (e ∷ es) = waits_after n (facts e).legs (legs_in es) (waiting_in n es)
