-- The book, and what holds of every book that Open and the calls return.
use Rattle.std.specs.Prelude.{ℕ, ◌+◌, ◌*◌, ◌≤◌, ◌<◌, ◌≡◌, true, List, pos, nat_abs, get_or}
use Rattle.calendar.specs.declared.Day.{Day}
use Rattle.calendar.specs.Closed.{last_day, listed_days}
use Rattle.calendar.specs.Days.{clearing}
use Rattle.instructions.specs.declared.Legs.{Legs}
use Rattle.instructions.specs.Legs.{waiting, ValidLegs}
use Rattle.ledger.specs.declared.Obligation.{Obligation}
use Rattle.ledger.specs.declared.Ledger.{Ledger}
use Rattle.ledger.specs.Setup.{ValidSetup}
use Rattle.ledger.specs.Obligations.{age_by, last_of}
use Rattle.ledger.specs.Ledger.{most_per_close, obligation_at, ValidLedger}
use Rattle.rates.specs.declared.Rates.{Rates}
use Rattle.rates.specs.Force.{ValidRates}
use Rattle.reprint.specs.declared.LastClose.{LastClose}
use Rattle.reprint.specs.Kept.{ValidLast}
use Rattle.book.specs.declared.BookDay.{BookDay}
use Rattle.book.specs.declared.Book.{Book}

-- the book with other legs
abbrev pub with_legs : Legs → Book → Book
with_legs legs b = record { setup = b.setup; day = b.day; legs = legs; ledger = b.ledger; last = b.last; rates = b.rates }

-- the book with another ledger
abbrev pub with_ledger : Ledger → Book → Book
with_ledger l b = record { setup = b.setup; day = b.day; legs = b.legs; ledger = l; last = b.last; rates = b.rates }

-- the book with another ledger, on another day
abbrev pub with_day : BookDay → Ledger → Book → Book
with_day d l b = record { setup = b.setup; day = d; legs = b.legs; ledger = l; last = b.last; rates = b.rates }

-- the book with other lines of a latest Close
abbrev pub with_last : LastClose → Book → Book
with_last last b = record { setup = b.setup; day = b.day; legs = b.legs; ledger = b.ledger; last = last; rates = b.rates }

-- the book with other rates
abbrev pub with_rates : Rates → Book → Book
with_rates rates b = record { setup = b.setup; day = b.day; legs = b.legs; ledger = b.ledger; last = b.last; rates = rates }

-- the days that the book lists as closed
abbrev pub closed_of : Book → List Day
closed_of b = listed_days b.setup.closed_days

-- the book's today
abbrev pub today_of : Book → Day
today_of b = b.day.today

-- B1, Buy-in: the age of an obligation of the book
unfoldable pub age_of : Book → Obligation → ℕ
age_of b o = age_by b.setup (today_of b) o

-- O9, Open: what holds of the day of every book with these closed days: it is a clearing day, and it is not above
-- 65,535
pub record ValidDay (closed_days : List Day) (d : BookDay) : Type 0 where
  pub today_clears : clearing closed_days d.today ≡ true
  pub today_most : d.today.0 ≤ last_day

-- O9, Open: what holds of every obligation of a book besides its soundness: its J is a clearing day, and as long as
-- something of it is outstanding, its age is not above last
pub record Timely (b : Book) (o : Obligation) : Type 0 where
  pub clears : clearing (closed_of b) o.deal.day ≡ true
  pub young : 1 ≤ o.parts.outstanding → age_of b o ≤ last_of b.setup.terms o

-- O9, Open: the premise of every call, which holds of the book of every Open and is kept by each call
pub record Valid (b : Book) : Type 0 where
  pub setup : ValidSetup b.setup
  pub day : ValidDay (closed_of b) b.day
  pub legs : ValidLegs b.legs
  pub ledger : ValidLedger b.ledger
  pub last : ValidLast b.last
  pub rates : ValidRates (today_of b) b.rates
  pub room : 2 * b.ledger.count + waiting b.legs ≤ b.legs.count
  pub timely : (n : ℕ) → n < b.ledger.count → Timely b (obligation_at b.ledger n)
  pub accounts_near : (m : ℕ) → nat_abs (get_or b.ledger.accounts m (pos 0)) ≤ most_per_close * (today_of b).0
