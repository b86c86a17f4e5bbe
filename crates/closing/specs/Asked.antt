-- What the functions of a Close require, and what they promise about a lent list.
use Rattle.std.specs.Prelude.{ℕ, ◌-◌, ◌≤◌, ◌≡◌, List, ℤ, pos, nat_abs, length, get_or}
use Rattle.basics.specs.Lists.{Every}
use Rattle.amounts.specs.Amounts.{most_close_price, most_offer_price, most_rate}
use Rattle.netting.specs.Accounts.{most_account}
use Rattle.offers.specs.declared.Offers.{Offers}
use Rattle.offers.specs.declared.Given.{Given}
use Rattle.offers.specs.Held.{most_offers, listed_offers}
use Rattle.offers.specs.BuyIn.{units}
use Rattle.ledger.specs.declared.Obligation.{Obligation}
use Rattle.ledger.specs.declared.Ledger.{Ledger}
use Rattle.ledger.specs.Setup.{ValidSetup}
use Rattle.ledger.specs.Obligations.{Sound}
use Rattle.ledger.specs.Lines.{fewest_words}
use Rattle.ledger.specs.Ledger.{most_per_close, ValidLedger}
use Rattle.closing.specs.declared.DayEnd.{DayEnd}
use Rattle.closing.specs.declared.Line.{Line}
use Rattle.closing.specs.Lines.{written}

-- the offers of a day: no more than a book can hold, and none above the highest price
pub record Priced (offers : Offers) : Type 0 where
  pub few : offers.count ≤ most_offers
  pub prices : Every (λ x. x.price ≤ most_offer_price) (listed_offers offers)

-- what is required so that all that the offers give can be bought in
pub record Buys (o : Obligation) (gs : List Given) : Type 0 where
  pub sound : Sound o
  pub enough : units gs ≤ o.parts.outstanding
  pub prices : Every (λ g. g.offer.price ≤ most_offer_price) gs

-- what holds of the end of every day: a valid setup, and a price and a rate within the limits
pub record ValidEnd (d : DayEnd) : Type 0 where
  pub setup : ValidSetup d.setup
  pub price_most : d.price ≤ most_close_price
  pub rate_most : d.rate ≤ most_rate

-- what the Close of one obligation requires
pub record Closes (d : DayEnd) (offers : Offers) (o : Obligation) : Type 0 where
  pub sound : Sound o
  pub end : ValidEnd d
  pub priced : Priced offers

-- how far from zero an account may be before a Close, so that a transfer can take every penalty of it
abbrev pub most_before : ℕ
most_before = most_account - most_per_close

-- the accounts can take the penalties of a Close
abbrev pub Near : List ℤ → Type 0
Near accounts = (m : ℕ) → nat_abs (get_or accounts m (pos 0)) ≤ most_before

-- what the Close of a ledger requires: a valid ledger at the valid end of a day, accounts that can take its penalties,
-- and room for the most lines
pub record Closable (d : DayEnd) (l : Ledger) (ws : List ℕ) : Type 0 where
  pub valid : ValidLedger l
  pub end : ValidEnd d
  pub accounts_near : Near l.accounts
  pub long : fewest_words ≤ length ws

-- C15, Close: a result with its lines: how many lines there are, and the lent list with them at its front
pub record ClosedAs {A : Type 0} (a : A) (ls : List Line) (r : A) (count : ℕ) (ws ws' : List ℕ) : Type 0 where
  pub result : r ≡ a
  pub counted : count ≡ length ls
  pub words : ws' ≡ written ls ws
