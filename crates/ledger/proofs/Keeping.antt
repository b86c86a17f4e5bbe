-- What a change leaves of an obligation: it is sound again, with the same deal.
use Prim.Native.Nat.{ℕ, ◌+◌, ◌≤◌, ◌<◌}
use native.Mathlib.Omega.{arith}
use mathlib.Core.Path.{◌≡◌, refl, ap, ◌∙◌}
use lib.Dec.{eqb}
use Rattle.basics.specs.Lists.{total}
use Rattle.basics.proofs.Cases.{pick_case}
use Rattle.amounts.specs.Amounts.{most_quantity, most_close_price}
use Rattle.netting.specs.Accounts.{member_count}
use Rattle.ledger.specs.declared.Terms.{Terms}
use Rattle.ledger.specs.declared.Part.{Part}
use Rattle.ledger.specs.declared.Part.TheVariants.{Delivered, Cancelled}
use Rattle.ledger.specs.declared.Parts.{Parts}
use Rattle.ledger.specs.declared.Deal.{Deal}
use Rattle.ledger.specs.declared.Wishes.{Wishes}
use Rattle.ledger.specs.declared.Obligation.{Obligation}
use Rattle.ledger.specs.declared.Sides.{Sides}
use Rattle.ledger.specs.Setup.{ValidTerms}
use Rattle.ledger.specs.Parts.{settled_parts, all_parts}
use Rattle.ledger.specs.Obligations.{with_parts, with_wishes, with_grace_price, new_obligation, settled, moving, with_wish, both_wish, wishing, last_of, sides, sides_of, SoundDeal, Sound, Takes}
use Rattle.ledger.proofs.Moving.{part_most, whole_moved, moved_none, moved_more}

-- what is settled and what is outstanding are at most the quantity
pub settled_most : (o : Obligation) → Sound o → settled o + o.parts.outstanding ≤ o.deal.quantity
unfolding settled_parts all_parts total
settled_most o s = omega (arith, s.whole)

-- other parts that add up to the quantity
with_parts_sound : (o : Obligation) (p : Parts) → Sound o → all_parts p ≡ o.deal.quantity → Sound (with_parts p o)
with_parts_sound o p s e = record { deal = s.deal; whole = e; stage = s.stage }

with_wishes_sound : (o : Obligation) (w : Wishes) → Sound o → Sound (with_wishes w o)
with_wishes_sound o w s = record { deal = s.deal; whole = s.whole; stage = s.stage }

-- the obligation of a new deal
pub new_sound : (d : Deal) → SoundDeal d → Sound (new_obligation d)
unfolding all_parts total
new_sound d s = record { deal = s; whole = omega arith; stage = record { price_most = omega arith } }

-- a quantity that moves to a part
pub moving_sound : (k : Part) (o : Obligation) (q : ℕ) → Takes o q → Sound (moving k q o)
unfolding moving
moving_sound k o q t = with_parts_sound o _ t.sound (whole_moved k q o.parts t.enough ∙ t.sound.whole)

-- all that is outstanding can move
pub takes_all : (o : Obligation) → Sound o → Takes o o.parts.outstanding
takes_all o s = record { sound = s; enough = omega arith }

pub with_wish_sound : (o : Obligation) (m : ℕ) → Sound o → Sound (with_wish m o)
unfolding with_wish
with_wish_sound o m s = pick_case Sound (eqb o.deal.seller m) _ _ (λ e. with_wishes_sound o _ s) (λ e. with_wishes_sound o _ s)

-- a wish, whether it cancels or not
pub wishing_sound : (o : Obligation) (m : ℕ) → Sound o → Sound (wishing m o)
unfolding wishing
wishing_sound o m s =
    pick_case Sound (both_wish (with_wish m o)) _ _ (λ e. moving_sound Cancelled (with_wish m o) _ (takes_all _ (with_wish_sound o m s))) (λ e. with_wish_sound o m s)

-- a price kept for the cap
pub priced_sound : (o : Obligation) (price : ℕ) → price ≤ most_close_price → Sound o → Sound (with_grace_price price o)
priced_sound o price h s = record { deal = s.deal; whole = s.whole; stage = record { price_most = h } }

-- ---- what a change leaves as it was
-- the deal stays, no more is outstanding than before, and the last day is not an earlier one
pub record Later (o r : Obligation) : Type 0 where
  pub deal : r.deal ≡ o.deal
  pub less : r.parts.outstanding ≤ o.parts.outstanding
  pub last : (terms : Terms) → last_of terms o ≤ last_of terms r

pub later_same : (o : Obligation) → Later o o
later_same o = record { deal = refl; less = omega arith; last = λ terms. omega arith }

pub later_then : (o p r : Obligation) → Later o p → Later p r → Later o r
later_then o p r a b = record {
  deal = b.deal ∙ a.deal;
  less = omega (arith, a.less, b.less);
  last = λ terms. omega (arith, a.last terms, b.last terms);
}

pub moving_later : (k : Part) (o : Obligation) (q : ℕ) → Later o (moving k q o)
unfolding moving last_of
moving_later k o q = record { deal = refl; less = omega arith; last = λ terms. omega arith }

pub priced_later : (o : Obligation) (price : ℕ) → Later o (with_grace_price price o)
unfolding last_of
priced_later o price = record { deal = refl; less = omega arith; last = λ terms. omega arith }

with_wishes_later : (o : Obligation) (w : Wishes) → Later o (with_wishes w o)
unfolding last_of
with_wishes_later o w = record { deal = refl; less = omega arith; last = λ terms. omega arith }

with_wish_later : (o : Obligation) (m : ℕ) → Later o (with_wish m o)
unfolding with_wish
with_wish_later o m = pick_case (Later o) (eqb o.deal.seller m) _ _ (λ e. with_wishes_later o _) (λ e. with_wishes_later o _)

pub wishing_later : (o : Obligation) (m : ℕ) → Later o (wishing m o)
unfolding wishing
wishing_later o m =
    pick_case (Later o) (both_wish (with_wish m o)) _ _ (λ e. later_then o (with_wish m o) _ (with_wish_later o m) (moving_later Cancelled (with_wish m o) _)) (λ e. with_wish_later o m)

-- ---- the last day
-- it comes after grace
pub last_after : (terms : Terms) (o : Obligation) → ValidTerms terms → terms.grace.0 < last_of terms o
unfolding last_of
last_after terms o h = h.grace_before

-- ---- the sides of a penalty
-- they are two members with an account each
pub record SoundSides (s : Sides) : Type 0 where
  pub debtor_below : s.debtor < member_count
  pub creditor_below : s.creditor < member_count
  pub apart : s.debtor ≡ s.creditor → ⊥

pub sides_sound : (o : Obligation) → Sound o → SoundSides (sides_of o)
unfolding sides
sides_sound o s = record {
  debtor_below = s.deal.seller_below;
  creditor_below = s.deal.buyer_below;
  apart = s.deal.parties_apart;
}

-- ---- what is outstanding
pub outstanding_most : (o : Obligation) → Sound o → o.parts.outstanding ≤ most_quantity
outstanding_most o s = omega (arith, part_most Delivered o.parts, s.whole, s.deal.quantity_most)

-- ---- moving nothing, and one quantity after another
pub moving_none : (k : Part) (o : Obligation) → moving k 0 o ≡ o
unfolding moving
moving_none k o = ap (λ (p : Parts). with_parts p o) (moved_none k o.parts)

pub moving_more : (k : Part) (o : Obligation) (a b : ℕ) → moving k b (moving k a o) ≡ moving k (a + b) o
unfolding moving
moving_more k o a b = ap (λ (p : Parts). with_parts p o) (moved_more k a b o.parts)
