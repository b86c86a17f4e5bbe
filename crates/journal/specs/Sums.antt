-- The sums over a journal, from its Open and its events alone. The latest event comes first.
use Rattle.std.specs.Prelude.{ℕ, ◌-◌, Bool, true, false, ◌&&◌, ◌||◌, List, [], ◌∷◌, eqb, ℤ, pos, ◌+ℤ◌, ◌-ℤ◌, Option, Some, None}
use Rattle.basics.specs.Choice.{pick}
use Rattle.basics.specs.Lists.{total, table}
use Rattle.basics.specs.Refusals.{answer, outcome}
use Rattle.calendar.specs.declared.Day.{Day}
use Rattle.calendar.specs.declared.ClosedDays.{ClosedDays}
use Rattle.calendar.specs.Closed.{day, closed_days, listed_days}
use Rattle.calendar.specs.Days.{age_at, next_after}
use Rattle.netting.specs.Accounts.{member_count, claim, owed}
use Rattle.ledger.specs.declared.Setup.{Setup}
use Rattle.ledger.specs.declared.Terms.{Terms}
use Rattle.ledger.specs.declared.Part.{Part}
use Rattle.ledger.specs.declared.Sides.{Sides}
use Rattle.ledger.specs.Parts.{every_part}
use Rattle.ledger.specs.Obligations.{sides}
use Rattle.closing.specs.declared.Line.{Line}
use Rattle.closing.specs.Lines.{penalty_kind}
use Rattle.payments.specs.Month.{amounts_paid}
use Rattle.book.specs.Open.{open_refusals, setup_of}
use Rattle.journal.specs.Calls.{Opening, Event}
use Rattle.journal.specs.Facts.{Instructed, instructs, is_end, reported, price_of, facts, moved_by}

-- ---- what the Open says
-- O5 and O6, Open: the value that an accepted Open gives the book, or that of the book that a refused Open returns
abbrev pub opened_with : {A : Type 0} → Opening → A → A → A
opened_with o given refused = outcome (answer (open_refusals o.first o.closed o.terms)) given (λ n. refused)

-- O5 and O6, Open: the first day of the book
abbrev pub first_day : Opening → Day
first_day o = opened_with o o.first (day 2)

-- O5 and O6, Open: the closed days and the terms, which the book keeps from its Open on
abbrev pub setup_in : Opening → Setup
setup_in o = opened_with o (setup_of (closed_days o.closed) o.terms) (setup_of (closed_days []) 0)

-- O5 and O6, Open: the closed days of the book
abbrev pub closed_days_in : Opening → ClosedDays
closed_days_in o = (setup_in o).closed_days

-- O5 and O6, Open: the terms of the book
abbrev pub terms_in : Opening → Terms
terms_in o = (setup_in o).terms

-- C17, Close: today moves on to the next clearing day. An accepted Close has one: without a next clearing day a Close
-- is refused by 20 (R20), so the day stays.
abbrev pub moved_on : Option Day → Day → Day
moved_on (Some next) today = next
moved_on None today = today

-- O5, Open; C17, Close: today is Open's first day, moved on to the next clearing day by each accepted Close
unfoldable pub today_in : Opening → List Event → Day
today_in o [] = first_day o
today_in o (e ∷ es) = pick (is_end (facts e).ends) (moved_on (next_after (listed_days (closed_days_in o)) (today_in o es)) (today_in o es)) (today_in o es)

-- ---- the obligations of a journal
-- the first of two values if it is there, and the second if not
abbrev pub or_else : {A : Type 0} → Option A → Option A → Option A
or_else (Some x) y = Some x
or_else None y = y

-- J4, Whole journals: the obligations of a journal are those whose number plus 1 an accepted Enter returned
unfoldable pub instructed_in : ℕ → List Event → Option Instructed
instructed_in n [] = None
instructed_in n (e ∷ es) = or_else (instructs n (facts e).legs) (instructed_in n es)

-- J6 to J9, Whole journals: what became part k of an obligation. Delivered is the sum of the quantities of its accepted
-- Delivers, bought in and compensated are the sums of the quantities of its reported lines of kinds 3 and 4, and
-- cancelled is the sum of what its accepted Cancels returned.
unfoldable pub part_in : Part → ℕ → List Event → ℕ
part_in k n es = total (λ e. moved_by k n (facts e)) es

-- J10, Whole journals: what is outstanding of obligation n is the instructed quantity less the sums of all parts
unfoldable pub outstanding_in : ℕ → Instructed → List Event → ℕ
outstanding_in n i es = i.quantity - total (λ k. part_in k n es) every_part

-- B1, Buy-in: the age of what was instructed, after these events
abbrev pub age_in : Opening → Instructed → List Event → ℕ
age_in o i es = (age_at (listed_days (closed_days_in o)) i.day (today_in o es)).0

-- ---- what an obligation stores
-- K1 and K4, Cancel: whether an accepted Cancel of obligation n by member m is among the events
unfoldable pub wished_in : ℕ → ℕ → List Event → Bool
wished_in n m [] = false
wished_in n m (e ∷ es) = (facts e).wishes n m || wished_in n m es

-- B8, Buy-in: whether the age of what was instructed is grace, after these events
abbrev pub is_grace_day : Opening → List Event → Option Instructed → Bool
is_grace_day o es None = false
is_grace_day o es (Some i) = eqb (age_in o i es) (terms_in o).grace.0

-- B8 and B9, Buy-in: the price for the cap of an obligation is that of the accepted Close at age = grace, which is the
-- age on the day that this Close ends. Before such a Close it is 0.
unfoldable pub grace_price_in : Opening → ℕ → List Event → ℕ
grace_price_in o n [] = 0
grace_price_in o n (e ∷ es) =
    pick (is_end (facts e).ends && is_grace_day o es (instructed_in n es)) (price_of (facts e).ends) (grace_price_in o n es)

-- B9, Buy-in: whether a Close was accepted at age = grace of an obligation
unfoldable pub grace_closed_in : Opening → ℕ → List Event → Bool
grace_closed_in o n [] = false
grace_closed_in o n (e ∷ es) = grace_closed_in o n es || (is_end (facts e).ends && is_grace_day o es (instructed_in n es))

-- ---- the accounts of a journal
-- C5, Close: the sides of a penalty of what was instructed
abbrev pub sides_by : Option Instructed → Option Sides
sides_by None = None
sides_by (Some i) = Some (sides i.seller i.buyer)

-- C5, Close: the sides of a penalty of obligation n at a Close after these events
abbrev pub sides_in : ℕ → List Event → Option Sides
sides_in n es = sides_by (instructed_in n es)

-- C5, Close: what the cents of a penalty with these sides credit to a member, less what they debit to it
abbrev pub credit_of : ℕ → ℕ → Option Sides → ℤ
credit_of m cents None = pos 0
credit_of m cents (Some s) = pick (eqb s.creditor m) (pos cents) (pos 0) -ℤ pick (eqb s.debtor m) (pos cents) (pos 0)

-- C5 and C12, Close: what the penalties among these lines, which are of kind 1, credit to a member, less what they
-- debit to it, if each obligation has these sides
unfoldable pub penalties_of : ℕ → (ℕ → Option Sides) → List Line → ℤ
penalties_of m sides_at [] = pos 0
penalties_of m sides_at (l ∷ ls) = pick (eqb l.kind penalty_kind) (credit_of m l.cents (sides_at l.obligation)) (pos 0) +ℤ penalties_of m sides_at ls

-- whether an event is a Month, by the list of collected amounts in its facts; an empty list is a list too
abbrev pub is_month : Option (List ℕ) → Bool
is_month None = false
is_month (Some cs) = true

-- J11, Whole journals: what the penalty lines since the last accepted Month, or since the start if there was none,
-- credited to a member, less what they debited to it
unfoldable pub account_in : ℕ → List Event → ℤ
account_in m [] = pos 0
account_in m (e ∷ es) = pick (is_month (facts e).collects) (pos 0) (account_in m es +ℤ penalties_of m (λ n. sides_in n es) (reported (facts e).ends))

-- M4, Month; J13, Whole journals: the claims after these events, in the order of the members
abbrev pub claims_in : List Event → List ℕ
claims_in es = table member_count (λ m. claim (account_in m es))

-- M4, Month; J13 and J17, Whole journals: what each member owes after these events, in the order of the members
abbrev pub debts_in : List Event → List ℕ
debts_in es = table member_count (λ m. owed (account_in m es))

-- J13, Whole journals: what a Month after these events collects if it is given these amounts. If there are none, each
-- member pays what it owes.
abbrev pub collected_in : List ℕ → List Event → List ℕ
collected_in amounts es = amounts_paid (debts_in es) amounts

-- ---- the last day
-- B3, Buy-in: the age of obligation n on its last day, by what was instructed and the events
unfoldable pub last_in : Opening → ℕ → Instructed → List Event → ℕ
last_in o n i es = (terms_in o).last.0

-- B3, Buy-in: whether today is the last day of obligation n, after these events
abbrev pub is_last_day : Opening → ℕ → List Event → Option Instructed → Bool
is_last_day o n es None = false
is_last_day o n es (Some i) = eqb (age_in o i es) (last_in o n i es)

-- J15, Whole journals: whether a Close was accepted on the last day of an obligation
unfoldable pub last_closed_in : Opening → ℕ → List Event → Bool
last_closed_in o n [] = false
last_closed_in o n (e ∷ es) = last_closed_in o n es || (is_end (facts e).ends && is_last_day o n es (instructed_in n es))
