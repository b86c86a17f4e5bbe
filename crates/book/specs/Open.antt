-- The call Open.
use Rattle.std.specs.Prelude.{ℕ, false, List, [], ◌∷◌, ltb, eqb}
use Rattle.basics.specs.Choice.{pick}
use Rattle.basics.specs.Refusals.{Refusal, refuse, answer, outcome}
use Rattle.calendar.specs.declared.Day.{Day}
use Rattle.calendar.specs.declared.ClosedDays.{ClosedDays}
use Rattle.calendar.specs.Closed.{day, closed_refused, closed_days}
use Rattle.calendar.specs.Days.{clearing_days}
use Rattle.instructions.specs.Legs.{no_legs}
use Rattle.ledger.specs.declared.Terms.{Terms}
use Rattle.ledger.specs.declared.Setup.{Setup}
use Rattle.ledger.specs.Ledger.{new_ledger}
use Rattle.rates.specs.Rows.{no_rates}
use Rattle.reprint.specs.Kept.{kept_from}
use Rattle.book.specs.declared.Book.{Book}
use Rattle.book.specs.declared.Opened.{Opened}
use Rattle.refusals.specs.Calls.{bad_first}

-- O3 and O4, Open: the three ages, notice, grace and last, by terms 0 and by terms 1
abbrev pub terms_of : ℕ → Terms
terms_of terms =
    pick (eqb terms 0) (record { notice = clearing_days 29; grace = clearing_days 30; last = clearing_days 35 })
    (record { notice = clearing_days 7; grace = clearing_days 10; last = clearing_days 13 })

-- O5, Open: the closed days and the terms of a book, which it keeps from its Open on
abbrev pub setup_of : ClosedDays → ℕ → Setup
setup_of closed_days terms = record { closed_days = closed_days; terms = terms_of terms }

-- O5, Open: a fresh book, whose today is the first day
abbrev pub fresh_book : Day → ClosedDays → ℕ → Book
fresh_book first closed_days terms = record {
  setup = setup_of closed_days terms;
  day = record { today = first; close_since = false; has_closed = false };
  legs = no_legs;
  ledger = new_ledger;
  last = kept_from [];
  rates = no_rates;
}

-- O6, Open: a refused Open returns the fresh book of day 2, without closed days and with terms 0
unfoldable pub refused_book : Book
refused_book = fresh_book (day 2) (closed_days []) 0

-- O6, Open; A5, Refusals: what a refused Open returns
abbrev pub open_refused : ℕ → Opened
open_refused n = record { answer = n; book = refused_book }

-- O7, Open; A6, R1, R4 and R11, Refusals: the refusals of Open. The first day is tested against the closed days of the
-- same call.
unfoldable pub open_refusals : Day → List ℕ → ℕ → List Refusal
open_refusals first closed terms =
    refuse 1 (ltb 1 terms)
    ∷ refuse 4 (closed_refused closed)
    ∷ refuse 11 (bad_first (closed_days closed) first)
    ∷ []

-- O1 and O5 to O7, Open: what Open returns. It is given the first day, the closed days and the number of the terms.
unfoldable pub opened : Day → List ℕ → ℕ → Opened
opened first closed terms =
    outcome (answer (open_refusals first closed terms))
    (record { answer = 0; book = fresh_book first (closed_days closed) terms })
    open_refused
