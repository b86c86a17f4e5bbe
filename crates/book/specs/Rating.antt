-- The call Rate.
use Rattle.std.specs.Prelude.{ℕ}
use Rattle.basics.specs.Refusals.{answer, outcome}
use Rattle.calendar.specs.declared.Day.{Day}
use Rattle.rates.specs.Rows.{row_of, with_rate}
use Rattle.refusals.specs.Calls.{rate_refusals}
use Rattle.book.specs.declared.Book.{Book}
use Rattle.book.specs.declared.Done.{Done}
use Rattle.book.specs.Book.{with_rates, today_of}
use Rattle.book.specs.Instructing.{done_refused}

-- A19, Refusals: the answer number of Rate
abbrev pub rate_answer : Book → Day → ℕ → ℕ
rate_answer b start rate = answer (rate_refusals (today_of b) b.rates start rate)

-- F3 and F4, Rates: a Rate that is done enters its row and changes nothing else
abbrev pub rate_done : Book → Day → ℕ → Done
rate_done b start rate = record { answer = 0; book = with_rates (with_rate (row_of start rate) b.rates) b }

-- F3, Rates: what Rate returns
unfoldable pub rated : Book → Day → ℕ → Done
rated b start rate = outcome (rate_answer b start rate) (rate_done b start rate) (done_refused b)
