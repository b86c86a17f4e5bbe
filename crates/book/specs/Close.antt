-- The call Close.
use Rattle.std.specs.Prelude.{ℕ, true, List, length, Option, Some, None}
use Rattle.basics.specs.Refusals.{answer, outcome}
use Rattle.calendar.specs.declared.Day.{Day}
use Rattle.calendar.specs.Days.{next_after}
use Rattle.closing.specs.declared.DayEnd.{DayEnd}
use Rattle.closing.specs.Lines.{written}
use Rattle.closing.specs.Close.{close_lines, closed_ledger}
use Rattle.rates.specs.declared.RateRow.{RateRow}
use Rattle.rates.specs.Rows.{listed_rates}
use Rattle.rates.specs.Force.{in_force, rate_of}
use Rattle.reprint.specs.Kept.{kept_from}
use Rattle.refusals.specs.Calls.{close_refusals}
use Rattle.book.specs.declared.Book.{Book}
use Rattle.book.specs.declared.BookDay.{BookDay}
use Rattle.book.specs.declared.Closed.{Closed}
use Rattle.book.specs.Book.{with_day, with_last, closed_of, today_of}

-- D4, Days and units: the next clearing day after the book's today
abbrev pub next_day : Book → Option Day
next_day b = next_after (closed_of b) (today_of b)

-- F6, Rates: the row of the book that is in force on its today
abbrev pub force_of : Book → Option RateRow
force_of b = in_force (today_of b) (listed_rates b.rates)

-- C1, Close: what a Close works with: the setup of the book, its today, the price of the Close and the rate in force
abbrev pub day_end : Book → ℕ → DayEnd
day_end b price = record { setup = b.setup; today = today_of b; price = price; rate = rate_of (force_of b) }

-- C17, Close; R21 and R22, Refusals: the day of the book after a Close: today has moved on, and a Month and an Again
-- may come
abbrev pub closed_day : Day → BookDay
closed_day next = record { today = next; close_since = true; has_closed = true }

-- C17, Close; N2, Again: the book after a Close, whose today is the next clearing day, and which keeps the lines
abbrev pub closed_book : Book → DayEnd → Day → Book
closed_book b d next = with_last (kept_from (close_lines d b.ledger)) (with_day (closed_day next) (closed_ledger d b.ledger) b)

-- A5, Refusals: what a refused Close or Again returns
abbrev pub close_refused : Book → ℕ → Closed
close_refused b n = record { answer = n; count = 0; book = b }

-- A12, Refusals: the answer number of Close, with this many words lent
abbrev pub close_answer : Book → ℕ → ℕ → ℕ
close_answer b price words = answer (close_refusals price words (next_day b) (force_of b))

-- C15 and C17, Close: what a Close that is done returns, if next is the next clearing day
abbrev pub close_done : Book → DayEnd → Day → Closed
close_done b d next = record { answer = 0; count = length (close_lines d b.ledger); book = closed_book b d next }

-- C17, Close; R20 and R26, Refusals: what Close returns, by the next clearing day after today and with this many words
-- lent. If there is none, the call is refused. If there is one, the call is done or refused.
unfoldable pub close_by : Book → ℕ → ℕ → Option Day → Closed
close_by b price words None = close_refused b (answer (close_refusals price words None (force_of b)))
close_by b price words (Some next) =
    outcome (answer (close_refusals price words (Some next) (force_of b))) (close_done b (day_end b price) next) (close_refused b)

-- C1 to C17, Close: what Close returns, with this many words lent
unfoldable pub close : Book → ℕ → ℕ → Closed
close b price words = close_by b price words (next_day b)

-- C15, Close; A5, Refusals: every word of the lent list as Close ends
unfoldable pub close_words : Book → ℕ → List ℕ → List ℕ
close_words b price ws = outcome (close_answer b price (length ws)) (written (close_lines (day_end b price) b.ledger) ws) (λ n. ws)
