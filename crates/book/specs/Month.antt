-- The call Month.
use Rattle.std.specs.Prelude.{ℕ, false, List}
use Rattle.basics.specs.Refusals.{outcome}
use Rattle.ledger.specs.Ledger.{cleared_ledger}
use Rattle.payments.specs.Month.{month_answer_by, paid_out}
use Rattle.book.specs.declared.Book.{Book}
use Rattle.book.specs.declared.BookDay.{BookDay}
use Rattle.book.specs.declared.Done.{Done}
use Rattle.book.specs.Book.{with_day}
use Rattle.book.specs.Instructing.{done_refused}

-- N3, Again; R21, Refusals: the day of the book after a Month: no Month may come until the next Close, but an Again may
abbrev pub paid_day : BookDay → BookDay
paid_day d = record { today = d.today; close_since = false; has_closed = d.has_closed }

-- M10, Month: the book after a Month: all accounts are zero
abbrev pub month_book : Book → Book
month_book b = with_day (paid_day b.day) (cleared_ledger b.ledger) b

-- A13, Refusals: the answer number of Month, with this many places for payouts
abbrev pub month_answer : Book → List ℕ → ℕ → ℕ
month_answer b collected places = month_answer_by b.ledger.accounts b.day.close_since collected places

-- M3 and M10, Month: what Month returns, with this many places for payouts
unfoldable pub month : Book → List ℕ → ℕ → Done
month b collected places = outcome (month_answer b collected places) (record { answer = 0; book = month_book b }) (done_refused b)

-- M3, Month; A5, Refusals: every word of the places for payouts as the call ends
abbrev pub month_words : Book → List ℕ → List ℕ → List ℕ
month_words b collected places = paid_out b.ledger.accounts b.day.close_since collected places
