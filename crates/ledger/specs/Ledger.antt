-- The ledger: obligations, offers and accounts.
use Rattle.std.specs.Prelude.{ℕ, ◌+◌, ◌*◌, ◌≤◌, ◌<◌, ◌≡◌, false, List, eqb, ltb, ℤ, pos, length, get_or, set, replicate, Result, Ok, Err}
use Rattle.basics.specs.Choice.{pick}
use Rattle.basics.specs.Lists.{Every, Sorted}
use Rattle.basics.specs.declared.Reason.{Reason}
use Rattle.basics.specs.Reasons.{number_of}
use Rattle.amounts.specs.Amounts.{most_quantity, most_offer_price, most_penalty}
use Rattle.netting.specs.Accounts.{member_count, balance}
use Rattle.offers.specs.declared.Offer.{Offer}
use Rattle.offers.specs.declared.Offers.{Offers}
use Rattle.offers.specs.Rank.{overtakes}
use Rattle.offers.specs.Held.{most_offers, no_offers, listed_offers, with_offer}
use Rattle.ledger.specs.declared.Obligation.{Obligation}
use Rattle.ledger.specs.declared.Fetched.{Fetched}
use Rattle.ledger.specs.declared.Fetched.TheVariants.{Found, Absent}
use Rattle.ledger.specs.declared.Change.{Change}
use Rattle.ledger.specs.declared.Ledger.{Ledger}
use Rattle.ledger.specs.Obligations.{no_obligation, Sound}

-- E13, Enter: the most obligations of a book, each of which takes two of its legs
abbrev pub most_obligations : ℕ
most_obligations = 64

-- the most that one Close moves on an account: the largest penalty of each obligation
abbrev pub most_per_close : ℕ
most_per_close = most_obligations * most_penalty

-- R1, Refusals: the highest number of a supplier
abbrev pub most_supplier : ℕ
most_supplier = 999

-- O5, Open; M1, Month: a fresh book has no obligations and no offers, and its 32 accounts are zero
abbrev pub new_ledger : Ledger
new_ledger = record { obligations = replicate most_obligations no_obligation; count = 0; offers = no_offers; accounts = replicate member_count (pos 0) }

-- the obligation with a number; a number without one gives an obligation of zeros, which no rule speaks of
abbrev pub obligation_at : Ledger → ℕ → Obligation
obligation_at l n = get_or l.obligations n no_obligation

-- A4 and R13, Refusals: a call that names an obligation fetches it by its number, and finds it if the number is below
-- the count
unfoldable pub fetched : Ledger → ℕ → Fetched
fetched l n = pick (ltb n l.count) (Found (obligation_at l n)) Absent

-- the ledger with another obligation under a number
abbrev pub with_obligation : ℕ → Obligation → Ledger → Ledger
with_obligation n o l = record { obligations = set l.obligations n o; count = l.count; offers = l.offers; accounts = l.accounts }

-- what a call comes to on the obligation that it names: its answer number, its result, and the obligation as it is then
pub record Effect : Type 0 where
  pub answer : ℕ
  pub result : ℕ
  pub obligation : Obligation

-- A5, Refusals: what a call on an obligation comes to if it is refused by a number: no result, and no obligation
abbrev pub refused_change : ℕ → Effect
refused_change k = record { answer = k; result = 0; obligation = no_obligation }

-- A5, Refusals: what a call on an obligation comes to, done or refused for a reason
abbrev pub effect_of : Result Change Reason → Effect
effect_of (Ok c) = record { answer = 0; result = c.result; obligation = c.obligation }
effect_of (Err reason) = refused_change (number_of reason)

-- A5, Refusals: the ledger after a call on obligation n. If the call is done, the obligation is what the call made of
-- it; a refused call changes nothing.
abbrev pub changed : ℕ → Effect → Ledger → Ledger
changed n c l = pick (eqb c.answer 0) (with_obligation n c.obligation l) l

-- E8, Enter: a new obligation gets the next number, from 0 on
abbrev pub with_new : Obligation → Ledger → Ledger
with_new o l = record { obligations = set l.obligations l.count o; count = l.count + 1; offers = l.offers; accounts = l.accounts }

-- B4 and B5, Buy-in: the ledger holds one offer more
abbrev pub with_offer_for : Offer → Ledger → Ledger
with_offer_for o l = record { obligations = l.obligations; count = l.count; offers = with_offer l.offers o; accounts = l.accounts }

-- M10, Month: the accounts become zero
abbrev pub cleared_ledger : Ledger → Ledger
cleared_ledger l = record { obligations = l.obligations; count = l.count; offers = l.offers; accounts = replicate member_count (pos 0) }

-- O9, Open: what holds of every offer of today, if there are n obligations
pub record SoundOffer (n : ℕ) (x : Offer) : Type 0 where
  pub there : x.obligation < n
  pub supplier_most : x.supplier ≤ most_supplier
  pub quantity_some : 1 ≤ x.quantity
  pub quantity_most : x.quantity ≤ most_quantity
  pub price_some : 1 ≤ x.price
  pub price_most : x.price ≤ most_offer_price

-- O9, Open: what holds of the offers of today, if there are n obligations
pub record ValidOffers (n : ℕ) (offers : Offers) : Type 0 where
  pub size : length offers.rows ≡ most_offers
  pub few : offers.count ≤ most_offers
  pub sound : Every (SoundOffer n) (listed_offers offers)
  pub ranked : Sorted (λ x y. overtakes y x ≡ false) (listed_offers offers)

-- O9, Open: what holds of the accounts of every book
pub record ValidAccounts (accounts : List ℤ) : Type 0 where
  pub size : length accounts ≡ member_count
  pub even : balance accounts ≡ pos 0

-- O9, Open: what holds of the ledger of every book
pub record ValidLedger (l : Ledger) : Type 0 where
  pub size : length l.obligations ≡ most_obligations
  pub few : l.count ≤ most_obligations
  pub sound : (n : ℕ) → n < l.count → Sound (obligation_at l n)
  pub offers : ValidOffers l.count l.offers
  pub accounts : ValidAccounts l.accounts
