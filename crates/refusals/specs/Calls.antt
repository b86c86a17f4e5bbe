-- The refusals of Enter, Cancel, Deliver, Offer, Rate, Close and Again: by what the call is given, on the obligation
-- that was fetched, by the rates of the book, and by the next clearing day. This file also has the outcome of a call
-- that names an obligation, and the condition on the first day of an Open.
use Rattle.std.specs.Prelude.{ℕ, ◌+◌, Bool, true, false, ◌||◌, ◌&&◌, not, List, [], ◌∷◌, ◌++◌, ltb, leb, eqb, Option, Some, None}
use Rattle.basics.specs.Refusals.{Refusal, refuse, answer, outcome, outside}
use Rattle.calendar.specs.declared.Day.{Day}
use Rattle.calendar.specs.declared.ClosedDays.{ClosedDays}
use Rattle.calendar.specs.Closed.{last_day, listed_days}
use Rattle.calendar.specs.Days.{clearing}
use Rattle.amounts.specs.Amounts.{most_quantity, most_amount, most_close_price, most_offer_price, most_rate, above_cap}
use Rattle.offers.specs.Held.{most_offers}
use Rattle.rates.specs.declared.Rates.{Rates}
use Rattle.rates.specs.declared.RateRow.{RateRow}
use Rattle.rates.specs.Rows.{most_rows, holds, listed_rates}
use Rattle.rates.specs.Force.{in_force, is_unset}
use Rattle.instructions.specs.declared.Leg.{Leg}
use Rattle.instructions.specs.Legs.{most_legs}
use Rattle.ledger.specs.declared.Terms.{Terms}
use Rattle.ledger.specs.declared.Obligation.{Obligation}
use Rattle.ledger.specs.declared.Fetched.{Fetched}
use Rattle.ledger.specs.declared.Fetched.TheVariants.{Found, Absent}
use Rattle.ledger.specs.Obligations.{latest_day, is_party, has_wished, last_of, in_buy_in}
use Rattle.ledger.specs.Lines.{fewest_words}
use Rattle.ledger.specs.Ledger.{most_supplier}
use Rattle.netting.specs.Accounts.{no_member}

-- ---- calls that name an obligation
-- A4 and R13, Refusals: the obligation is fetched after the refusals by what the call is given were tested. If it is
-- absent, 13 holds, and nothing else is tested. If it was found, 13 does not hold, and the further refusals are
-- conditions on it.
abbrev pub fetch_refusals : List Refusal → Fetched → (Obligation → List Refusal) → List Refusal
fetch_refusals input Absent on = input ++ refuse 13 true ∷ []
fetch_refusals input (Found o) on = input ++ refuse 13 false ∷ on o

-- A4 and A5, Refusals: the outcome by what was fetched. If the obligation is absent, the call is refused. If it was
-- found, the call is done on it or refused.
unfoldable pub fetch_outcome : {A : Type 0} → List Refusal → Fetched → (Obligation → List Refusal) → (Obligation → A) → (ℕ → A) → A
fetch_outcome input Absent on done refused = refused (answer (fetch_refusals input Absent on))
fetch_outcome input (Found o) on done refused = outcome (answer (fetch_refusals input (Found o) on)) (done o) refused

-- ---- Open and Enter
-- R11, Refusals: Open is refused if the first day is no clearing day or is above 65,535
abbrev pub bad_first : ClosedDays → Day → Bool
bad_first closed_days first = ltb last_day first.0 || not (clearing (listed_days closed_days) first)

-- R1, Refusals: Enter is refused if a member is above 31, if both members are the same, or if the side is above 1
abbrev pub bad_parties : ℕ → ℕ → ℕ → Bool
bad_parties member other side = no_member member || (no_member other || (eqb member other || ltb 1 side))

-- R11, Refusals: Enter is refused if J is no clearing day, is before today or is above 60,000
abbrev pub bad_day : ClosedDays → Day → Day → Bool
bad_day closed_days today j = not (clearing (listed_days closed_days) j) || (ltb j.0 today.0 || ltb latest_day j.0)

-- A7, R1 to R3, R11 and R12, Refusals: the refusals of Enter, in a book with these closed days, on this day and with
-- this many legs
unfoldable pub enter_refusals : ClosedDays → Day → ℕ → Leg → List Refusal
enter_refusals closed_days today legs new =
    refuse 1 (bad_parties new.member new.other new.side)
    ∷ refuse 2 (outside 1 most_quantity new.quantity)
    ∷ refuse 3 (outside 1 most_amount new.amount)
    ∷ refuse 11 (bad_day closed_days today new.day)
    ∷ refuse 12 (leb most_legs legs)
    ∷ []

-- ---- Cancel, Account and Look
-- A9, A15, A16 and R1, Refusals: the refusals of a call by the member that it names: all of Account and of Look
abbrev pub member_refusals_in : ℕ → List Refusal
member_refusals_in member = refuse 1 (no_member member) ∷ []

-- A9 and R1, Refusals: the refusals of Cancel by what it is given
abbrev pub cancel_refusals_in : ℕ → List Refusal
cancel_refusals_in member = member_refusals_in member

-- A9, R14 and R15, Refusals: the refusals of Cancel on the obligation that was found
unfoldable pub cancel_refusals_of : Obligation → ℕ → List Refusal
cancel_refusals_of o member =
    refuse 14 (not (is_party o member) || has_wished o member)
    ∷ refuse 15 (eqb o.parts.outstanding 0)
    ∷ []

-- ---- Deliver
-- A10 and R2, Refusals: the refusals of Deliver by what it is given
abbrev pub deliver_refusals_in : ℕ → List Refusal
deliver_refusals_in q = refuse 2 (outside 1 most_quantity q) ∷ []

-- V5, Deliver; A10, R15 and R16, Refusals: the refusals of Deliver on the obligation that was found. Its age is not
-- asked for, so a delivery is taken at every age from J on.
unfoldable pub deliver_refusals_of : Day → Obligation → ℕ → List Refusal
deliver_refusals_of today o q =
    refuse 15 (ltb o.parts.outstanding q)
    ∷ refuse 16 (ltb today.0 o.deal.day.0)
    ∷ []

-- ---- Offer
-- A3, A11 and R1 to R3, Refusals: the refusals of Offer by what it is given
unfoldable pub offer_refusals_in : ℕ → ℕ → ℕ → List Refusal
offer_refusals_in supplier q price =
    refuse 1 (ltb most_supplier supplier)
    ∷ refuse 2 (outside 1 most_quantity q)
    ∷ refuse 3 (outside 1 most_offer_price price)
    ∷ []

-- R16, Refusals: Offer is refused if the obligation, with its age, is not in its buy-in days
abbrev pub not_in_buy_in : Terms → Day → ℕ → Obligation → Bool
not_in_buy_in terms today age o = ltb today.0 o.deal.day.0 || not (in_buy_in terms.grace.0 (last_of terms o) age)

-- A3, A11 and R15 to R18, Refusals: the refusals of Offer on the obligation that was found, with its age, in a book
-- with this many offers
unfoldable pub offer_refusals_of : Terms → Day → ℕ → ℕ → Obligation → ℕ → List Refusal
offer_refusals_of terms today age offers o price =
    refuse 15 (eqb o.parts.outstanding 0)
    ∷ refuse 16 (not_in_buy_in terms today age o)
    ∷ refuse 17 (leb most_offers offers)
    ∷ refuse 18 (above_cap price o.stage.grace_price)
    ∷ []

-- ---- Rate
-- R24, Refusals: Rate is refused if the starting day is before today or above 65,535
abbrev pub bad_start : Day → Day → Bool
bad_start today start = ltb start.0 today.0 || ltb last_day start.0

-- F7, Rates; R25, Refusals: the last place is free, the starting day is after today, and no row has started. The last
-- place is for a row that has started.
unfoldable pub last_kept : Day → Rates → Day → Bool
last_kept today rates start = eqb (rates.count + 1) most_rows && (ltb today.0 start.0 && is_unset (in_force today (listed_rates rates)))

-- R25, Refusals: Rate is refused if the starting day is new and there is no place for it
unfoldable pub no_place : Day → Rates → Day → Bool
no_place today rates start = not (holds start (listed_rates rates)) && (leb most_rows rates.count || last_kept today rates start)

-- A19, R3, R24 and R25, Refusals: the refusals of Rate, in a book with these rates on this day
unfoldable pub rate_refusals : Day → Rates → Day → ℕ → List Refusal
rate_refusals today rates start rate =
    refuse 3 (ltb most_rate rate)
    ∷ refuse 24 (bad_start today start)
    ∷ refuse 25 (no_place today rates start)
    ∷ []

-- ---- Close
-- R5, Refusals: Close and Again are refused if the list has too few words
abbrev pub is_short : ℕ → Bool
is_short words = ltb words fewest_words

-- A12, R3 and R5, Refusals: the refusals of Close by what it is given, with this many words lent
unfoldable pub close_refusals_in : ℕ → ℕ → List Refusal
close_refusals_in price words = refuse 3 (outside 1 most_close_price price) ∷ refuse 5 (is_short words) ∷ []

-- R20, Refusals: whether there is no next clearing day
abbrev pub is_never : Option Day → Bool
is_never None = true
is_never (Some next) = false

-- A12, R20 and R26, Refusals: the refusals of Close, by the next clearing day after today and by the rate in force. If
-- there is no such day, 20 holds, and if no rate is in force, 26 holds.
unfoldable pub close_refusals : ℕ → ℕ → Option Day → Option RateRow → List Refusal
close_refusals price words next force = close_refusals_in price words ++ refuse 20 (is_never next) ∷ refuse 26 (is_unset force) ∷ []

-- ---- Again
-- A17, R5 and R22, Refusals: the refusals of Again, by whether a Close was accepted since Open, with this many words
-- lent
unfoldable pub again_refusals : Bool → ℕ → List Refusal
again_refusals closed words = refuse 5 (is_short words) ∷ refuse 22 (not closed) ∷ []
