-- The refusals of Offer from the input, and those of the obligation that was fetched.
use Prim.Native.Nat.{ℕ, ◌≤◌, ◌<◌}
use mathlib.Core.Path.{◌≡◌, refl}
use mathlib.Core.Bool.{false}
use borrow.Author.Tests.{ltb-false, leb-false}
use Rattle.basics.specs.Refusals.{answer, outside}
use Rattle.basics.proofs.Cases.{or_false}
use Rattle.basics.proofs.Refusals.{passed}
use Rattle.calendar.specs.declared.Day.{Day}
use Rattle.amounts.specs.Amounts.{most_quantity, most_offer_price}
use Rattle.ledger.specs.declared.Terms.{Terms}
use Rattle.ledger.specs.declared.Obligation.{Obligation}
use Rattle.ledger.specs.Ledger.{most_supplier}
use Rattle.refusals.specs.Calls.{offer_refusals_in, offer_refusals_of}

-- a number that is not outside of two limits lies within them
pub within : (low high x : ℕ) → outside low high x ≡ false → (low ≤ x) × (x ≤ high)
within low high x e = let q = or_false e in (ltb-false x low q.0, ltb-false high x q.1)

-- what the numbers of an offer are that passes the refusals from its input
pub record Offered (supplier q price : ℕ) : Type 0 where
  pub supplier_most : supplier ≤ most_supplier
  pub quantity_within : (1 ≤ q) × (q ≤ most_quantity)
  pub price_within : (1 ≤ price) × (price ≤ most_offer_price)

pub offered : (supplier q price : ℕ) → answer (offer_refusals_in supplier q price) ≡ 0 → Offered supplier q price
unfolding offer_refusals_in
offered supplier q price e =
    let p1 = passed 1 _ _ e refl in
    let p2 = passed 2 _ _ p1.1 refl in
    let p3 = passed 3 _ _ p2.1 refl in
    record {
      supplier_most = ltb-false most_supplier supplier p1.0;
      quantity_within = within 1 most_quantity q p2.0;
      price_within = within 1 most_offer_price price p3.0;
    }

-- fewer than 64 offers are held where an offer is taken
pub offers_few : (terms : Terms) (today : Day) (age offers : ℕ) (o : Obligation) (price : ℕ) → answer (offer_refusals_of terms today age offers o price) ≡ 0 → offers < 64
unfolding offer_refusals_of
offers_few terms today age offers o price e =
    let p16 = passed 16 _ _ (passed 15 _ _ e refl).1 refl in
    leb-false 64 offers (passed 17 _ _ p16.1 refl).0
