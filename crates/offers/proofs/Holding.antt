-- Laws on the rows that hold the day's offers.
use Prim.Native.Nat.{suc, ◌+◌, ◌≤◌, ◌<◌}
use native.Mathlib.Omega.{arith}
use native.Mathlib.Numerals.{add-one}
use mathlib.Core.Path.{◌≡◌, refl, sym, ap, ◌∙◌}
use mathlib.Core.List.{List, [], ◌∷◌}
use lib.ListN.{length, drop, length-append, length-drop}
use lib.Seq.{take_at, length-take-le}
use Rattle.basics.specs.Lists.{Every}
use Rattle.offers.specs.declared.Offer.{Offer}
use Rattle.offers.specs.declared.Offers.{Offers}
use Rattle.offers.specs.Rank.{overtakes, inserted, ranked, ranked_by}
use Rattle.offers.specs.Held.{most_offers, no_offers, listed_offers, with_offer}
use Rattle.offers.proofs.Insertion.{length_inserted, every_inserted}

-- as many offers are listed as are counted
pub listed_length : (s : Offers) → s.count ≤ length s.rows → length (listed_offers s) ≡ s.count
listed_length s h = length-take-le s.count s.rows h

-- a day begins with no offers
pub listed_none : listed_offers no_offers ≡ ranked []
unfolding ranked_by
listed_none = refl

module _ (s : Offers) (o : Offer) (room : s.count < most_offers) (size : length s.rows ≡ most_offers) where
  inserted_length : length (inserted o (listed_offers s)) ≡ s.count + 1
  inserted_length =
      length_inserted overtakes o (listed_offers s) ∙ ap suc (listed_length s (omega arith)) ∙ sym (add-one s.count)

  -- with one more offer, the rows list the offers with it inserted
  pub listed_with : listed_offers (with_offer s o) ≡ inserted o (listed_offers s)
  listed_with = take_at (inserted o (listed_offers s)) (drop (s.count + 1) s.rows) (s.count + 1) inserted_length

  -- the count grows by one
  pub count_with : (with_offer s o).count ≡ s.count + 1
  count_with = refl

  -- there are still 64 rows
  pub size_with : length (with_offer s o).rows ≡ most_offers
  size_with =
      length-append (inserted o (listed_offers s)) (drop (s.count + 1) s.rows)
      ∙ omega (arith, inserted_length, length-drop (s.count + 1) s.rows)

  -- If the rows list the entered offers in the order of the auction, they still do with one offer more.
  pub ranked_with : (entered : List Offer) → listed_offers s ≡ ranked entered → listed_offers (with_offer s o) ≡ ranked (o ∷ entered)
  unfolding ranked_by
  ranked_with entered e = listed_with ∙ ap (inserted o) e

  -- what holds of the new offer and of every listed one holds of all that are then listed
  pub every_with : {P : Offer → Type 0} → P o → Every P (listed_offers s) → Every P (listed_offers (with_offer s o))
  every_with {P} p h = rw listed_with (every_inserted overtakes o {P = P} p h)
