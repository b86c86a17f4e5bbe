-- `fresh` meets its contract.
use mathlib.Core.Bool.{false}
use Rattle.book.proofs.Book.fresh.Goals as goal

pub returns : goal.returns
returns c = let a = c.args in λ i. record {
  legs = c.none.ensures i;
  ledger = c.new.ensures i;
  last = c.none-2.ensures i;
  rates = c.none-3.ensures i;
  setup = record { closed_days = a.closed_days; terms = c.terms_of.ensures i };
  day = record { today = a.first; close_since = false; has_closed = false };
}
