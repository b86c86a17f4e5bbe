-- A new ledger is valid, and a changed obligation, a new one and a new offer leave a valid ledger.
use Prim.Native.Nat.{ℕ, ◌+◌, ◌<◌}
use native.Mathlib.Omega.{arith}
use mathlib.Core.Path.{◌≡◌, refl, ◌∙◌}
use mathlib.Core.Bool.{Bool, true, false}
use lib.Dec.{ltb}
use lib.ListN.{length-set}
use borrow.Author.Tests.{ltb-true, lt-ltb}
use Rattle.basics.specs.Choice.{pick}
use Rattle.basics.specs.Lists.Every.{nobody}
use Rattle.basics.specs.Lists.Sorted.{empty}
use Rattle.basics.proofs.Cases.{pick_case}
use Rattle.basics.proofs.Everywhere.{every_map}
use Rattle.basics.proofs.Places.{set_case}
use Rattle.netting.specs.Accounts.{balance}
use Rattle.offers.specs.declared.Offer.{Offer}
use Rattle.offers.specs.Held.{no_offers}
use Rattle.offers.proofs.Holding.{size_with, every_with, listed_with}
use Rattle.offers.proofs.Ranking.{inserted_in_rank}
use Rattle.ledger.specs.declared.Obligation.{Obligation}
use Rattle.ledger.specs.declared.Ledger.{Ledger}
use Rattle.ledger.specs.declared.Fetched.{Fetched}
use Rattle.ledger.specs.declared.Fetched.TheVariants.{Found, Absent}
use Rattle.ledger.specs.Obligations.{no_obligation, Sound}
use Rattle.ledger.specs.Ledger.{new_ledger, obligation_at, fetched, with_obligation, with_new, with_offer_for, SoundOffer, ValidOffers, ValidLedger}

-- no offers
pub no_offers_valid : (n : ℕ) → ValidOffers n no_offers
no_offers_valid n = record { size = refl; few = omega arith; sound = nobody; ranked = empty }

-- no obligations, no offers, all accounts zero
pub new_valid : ValidLedger new_ledger
unfolding balance
new_valid = record {
  size = refl;
  few = omega arith;
  sound = λ n h. absurd (omega arith);
  offers = no_offers_valid 0;
  accounts = record { size = refl; even = refl };
}

-- what a number that was found is: below the count, and the obligation that stands there
pub record There (l : Ledger) (n : ℕ) (o : Obligation) : Type 0 where
  pub below : ltb n l.count ≡ true
  pub same : o ≡ obligation_at l n

pub found_there : (l : Ledger) (n : ℕ) (o : Obligation) → fetched l n ≡ Found o → There l n o
unfolding fetched
found_there l n o e = by (ltb n l.count) refl e
  where
    by : (t : Bool) → ltb n l.count ≡ t → pick t (Found (obligation_at l n)) Absent ≡ Found o → There l n o
    by true t q = record { below = t; same = cc }
    by false t q = let z : ◌≡◌ {A = ℕ} 0 1 = cc in absurd (omega arith)

-- an obligation of the count is found
pub below_found : (l : Ledger) (n : ℕ) → n < l.count → fetched l n ≡ Found (obligation_at l n)
unfolding fetched
below_found l n h = rw (lt-ltb n l.count h)

-- what holds of both answers of a fetch holds of the fetch
pub fetched_case : (P : Fetched → Type 0) (l : Ledger) (n : ℕ) → P Absent → (n < l.count → P (Found (obligation_at l n))) → P (fetched l n)
unfolding fetched
fetched_case P l n f g = pick_case P (ltb n l.count) _ _ (λ e. g (ltb-true n l.count e)) (λ e. f)

module _ (l : Ledger) (v : ValidLedger l) where
  -- an obligation that was found is sound
  pub there_sound : (n : ℕ) (o : Obligation) → There l n o → Sound o
  there_sound n o t = rw t.same (v.sound n (ltb-true n l.count t.below))

  -- what is fetched of it is sound
  pub found_sound : (n : ℕ) (o : Obligation) → fetched l n ≡ Found o → Sound o
  found_sound n o e = there_sound n o (found_there l n o e)

  -- an obligation of it, changed and sound
  pub valid_changed : (n : ℕ) (o : Obligation) → n < l.count → Sound o → ValidLedger (with_obligation n o l)
  valid_changed n o h s = record {
    size = length-set l.obligations n o ∙ v.size;
    few = v.few;
    sound = λ k q. set_case Sound l.obligations n k o no_obligation (omega (arith, v.size, v.few)) (λ e. s) (λ e. v.sound k q);
    offers = v.offers;
    accounts = v.accounts;
  }

  -- an offer for one of n obligations is one for more
  more_offers : (x : Offer) → SoundOffer l.count x → SoundOffer (l.count + 1) x
  more_offers x s = record {
    there = omega (arith, s.there);
    supplier_most = s.supplier_most;
    quantity_some = s.quantity_some;
    quantity_most = s.quantity_most;
    price_some = s.price_some;
    price_most = s.price_most;
  }

  -- one obligation more
  pub valid_more : (o : Obligation) → l.count < 64 → Sound o → ValidLedger (with_new o l)
  valid_more o h s = record {
    size = length-set l.obligations l.count o ∙ v.size;
    few = omega arith;
    sound = λ k q. set_case Sound l.obligations l.count k o no_obligation (omega (arith, v.size)) (λ e. s) (λ e. v.sound k (below k q e));
    offers = record { size = v.offers.size; few = v.offers.few; sound = every_map more_offers v.offers.sound; ranked = v.offers.ranked };
    accounts = v.accounts;
  }
    where
      below : (k : ℕ) → k < l.count + 1 → (k ≡ l.count → ⊥) → k < l.count
      below k q e = omega arith

  -- one offer more
  pub valid_offer : (x : Offer) → l.offers.count < 64 → SoundOffer l.count x → ValidLedger (with_offer_for x l)
  valid_offer x h s = record {
    size = v.size;
    few = v.few;
    sound = v.sound;
    offers = record {
      size = size_with l.offers x h v.offers.size;
      few = omega arith;
      sound = every_with l.offers x h v.offers.size s v.offers.sound;
      ranked = rw (listed_with l.offers x h v.offers.size) (inserted_in_rank x v.offers.ranked);
    };
    accounts = v.accounts;
  }
