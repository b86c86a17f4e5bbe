-- What a Close does to all obligations and to the accounts.
use Rattle.std.specs.Prelude.{ℕ, zero, suc, List, [], ◌++◌, ℤ, get_or, set}
use Rattle.basics.specs.Choice.{pick}
use Rattle.netting.specs.Accounts.{transferred}
use Rattle.offers.specs.declared.Offer.{Offer}
use Rattle.offers.specs.Held.{no_offers, listed_offers}
use Rattle.ledger.specs.declared.Obligation.{Obligation}
use Rattle.ledger.specs.declared.Ledger.{Ledger}
use Rattle.ledger.specs.Obligations.{no_obligation, age_by, is_due, sides_of}
use Rattle.closing.specs.declared.DayEnd.{DayEnd}
use Rattle.closing.specs.declared.Measures.{Measures}
use Rattle.closing.specs.declared.Line.{Line}
use Rattle.closing.specs.Lines.{Made, nothing, then}
use Rattle.closing.specs.Stages.{priced, penalty_on, measures_at, penalised, notice_at, buy_in_at, compensated_at}

-- C3, Close: the course of a Close for one obligation, with these cents of penalty and these measures: its penalty,
-- then a notice, then the buy-in, then compensation
unfoldable pub course : ℕ → Measures → ℕ → List Offer → ℕ → Obligation → Made
course cents m price offers n o =
    then (then (then (penalised n cents o) (notice_at m.notice n)) (buy_in_at m.buy_in offers n))
    (compensated_at m.compensation price n)

-- C3, Close: what happens to an obligation that is due. Its penalty and its measures are those of the obligation as the
-- Close begins. Before all else the price is stored at age = grace (B9).
unfoldable pub stages : DayEnd → ℕ → List Offer → ℕ → Obligation → Made
stages d age offers n o =
    course (penalty_on d o) (measures_at d.setup.terms age o) d.price offers n (priced d.setup.terms age d.price o)

-- C2, Close; B10, Buy-in: what happens to an obligation. It is due if its J is today or earlier and something of it is
-- outstanding. Any other obligation stays as it is and gets no line, even if there are offers for it.
unfoldable pub closed_one : DayEnd → List Offer → ℕ → Obligation → Made
closed_one d offers n o =
    pick (is_due d.today o) (stages d (age_by d.setup d.today o) offers n o) (nothing o)

-- obligation number n, as the Close leaves it, with its lines
abbrev pub closed_at : DayEnd → List Offer → List Obligation → ℕ → Made
closed_at d offers os n = closed_one d offers n (get_or os n no_obligation)

-- C2, Close: all obligations, in rising number, after the first n of them are closed
unfoldable pub rows_up_to : DayEnd → List Offer → List Obligation → ℕ → List Obligation
rows_up_to d offers os zero = os
rows_up_to d offers os (suc n) = set (rows_up_to d offers os n) n (closed_at d offers os n).obligation

-- C2 and C3, Close: the lines of the first n obligations, in rising number
unfoldable pub lines_up_to : DayEnd → List Offer → List Obligation → ℕ → List Line
lines_up_to d offers os zero = []
lines_up_to d offers os (suc n) = lines_up_to d offers os n ++ (closed_at d offers os n).lines

-- C4 and C5, Close: the accounts after the penalty of one obligation, which passes from its debtor to its creditor
unfoldable pub fined : DayEnd → Obligation → List ℤ → List ℤ
fined d o accounts =
    pick (is_due d.today o) (transferred (sides_of o).debtor (sides_of o).creditor (penalty_on d o) accounts) accounts

-- C5, Close; M2, Month: the accounts after the penalties of the first n obligations; nothing else moves them
unfoldable pub accounts_up_to : DayEnd → List Obligation → List ℤ → ℕ → List ℤ
accounts_up_to d os accounts zero = accounts
accounts_up_to d os accounts (suc n) = fined d (get_or os n no_obligation) (accounts_up_to d os accounts n)

-- C3, C4 and C6 to C14, Close: all lines of a Close
abbrev pub close_lines : DayEnd → Ledger → List Line
close_lines d l = lines_up_to d (listed_offers l.offers) l.obligations l.count

-- C2 to C5, C7 to C10 and C17, Close; B5, Buy-in: the ledger after a Close; the offers of the day are removed
abbrev pub closed_ledger : DayEnd → Ledger → Ledger
closed_ledger d l = record {
  obligations = rows_up_to d (listed_offers l.offers) l.obligations l.count;
  count = l.count;
  offers = no_offers;
  accounts = accounts_up_to d l.obligations l.accounts l.count;
}
