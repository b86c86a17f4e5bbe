-- Laws on the order of the auction (C7, Close): rising price, then earlier entry.
use Prim.Native.Nat.{◌≤◌, ◌<◌}
use native.Mathlib.Omega.{arith}
use mathlib.Core.Path.{◌≡◌, refl, ap, ◌∙◌}
use mathlib.Core.Bool.{Bool, true, false}
use mathlib.Core.List.{List, [], ◌∷◌, map}
use lib.ListN.{length}
use borrow.Author.Tests.{ltb-true, ltb-false, le-ltb}
use Rattle.basics.specs.Lists.{Every, Sorted}
use Rattle.basics.specs.Lists.Every.{nobody}
use Rattle.basics.specs.Lists.Sorted.{empty}
use Rattle.offers.specs.declared.Offer.{Offer}
use Rattle.offers.specs.Rank.{overtakes, inserted, ranked, ranked_by, Entry, TakenBefore, numbered, InOrder}
use Rattle.basics.proofs.Everywhere.{every_map}
use Rattle.offers.proofs.Insertion.{Kept, Ranks, Placed, every_inserted, inserted_sorted, inserted_keeps, ranked_perm, map_ranked}

-- an offer that overtakes another is cheaper
overtakes_true : (x y : Offer) → overtakes x y ≡ true → x.price < y.price
unfolding overtakes
overtakes_true x y e = ltb-true _ _ e

-- an offer that does not overtake another is not cheaper
overtakes_false : (x y : Offer) → overtakes x y ≡ false → y.price ≤ x.price
unfolding overtakes
overtakes_false x y e = ltb-false _ _ e

-- an offer overtakes none that is not dearer
not_overtaken : (x y : Offer) → y.price ≤ x.price → overtakes x y ≡ false
unfolding overtakes
not_overtaken x y h = le-ltb _ _ h

-- The two laws of the auction's order. By them, offers in order stay in order.
pub overtakes_ranks : Ranks overtakes
overtakes_ranks = record {
  total = λ x y e. not_overtaken y x (omega (arith, overtakes_true x y e));
  transitive = λ x y z p q. not_overtaken z x (omega (arith, overtakes_false y x p, overtakes_false z y q));
}

-- offers in order stay in order when one more is entered
pub inserted_in_rank : (o : Offer) {xs : List Offer}
    → Sorted (Kept overtakes) xs → Sorted (Kept overtakes) (inserted o xs)
inserted_in_rank o s = inserted_keeps overtakes overtakes_ranks o s

-- the test on entries looks at their offers alone
abbrev overtakes_entry : Entry → Entry → Bool
overtakes_entry x y = overtakes x.offer y.offer

taken_before_transitive : (x y z : Entry) → TakenBefore x y → TakenBefore y z → TakenBefore x z
taken_before_transitive x y z a b = record {
  price = omega (arith, a.price, b.price);
  entry = λ e.
      let p : x.offer.price ≡ y.offer.price = omega (arith, a.price, b.price) in
      let q : y.offer.price ≡ z.offer.price = omega (arith, a.price, b.price) in
      omega (arith, a.entry p, b.entry q);
}

-- the test puts a later entry o and an earlier entry y in the order of C7
placed_as_taken : (o y : Entry) → y.place < o.place → Placed overtakes_entry TakenBefore o y
placed_as_taken o y h = record {
  first = λ e.
      let cheaper = overtakes_true o.offer y.offer e in
      record { price = omega (arith, cheaper); entry = λ same. absurd (omega (arith, cheaper)) };
  behind = λ e. record { price = overtakes_false o.offer y.offer e; entry = λ same. h };
}

places_below : (l : List Offer) → Every (λ (e : Entry). e.place < length l) (ranked_by overtakes_entry (numbered l))
unfolding ranked_by numbered
places_below [] = nobody
places_below (o ∷ l) =
    every_inserted overtakes_entry (record { offer = o; place = length l }) (omega arith)
    (every_map (λ e h. omega arith) (places_below l))

entries_sorted : (l : List Offer) → Sorted TakenBefore (ranked_by overtakes_entry (numbered l))
unfolding ranked_by numbered
entries_sorted [] = empty
entries_sorted (o ∷ l) =
    let entry : Entry = record { offer = o; place = length l } in
    inserted_sorted overtakes_entry entry TakenBefore taken_before_transitive
    (every_map (λ y h. placed_as_taken entry y h) (places_below l))
    (entries_sorted l)

numbered_offers : (l : List Offer) → map (λ (e : Entry). e.offer) (numbered l) ≡ l
unfolding numbered
numbered_offers [] = refl
numbered_offers (o ∷ l) = ap (λ (xs : List Offer). o ∷ xs) (numbered_offers l)

-- Offers that were entered one after another stand in the order of C7. All of them are there, each once.
pub ranked_in_order : (entered : List Offer) → InOrder entered (ranked entered)
ranked_in_order entered = record {
  entries = ranked_by overtakes_entry (numbered entered);
  these = map_ranked (λ (e : Entry). e.offer) overtakes (numbered entered) ∙ ap ranked (numbered_offers entered);
  all = ranked_perm overtakes_entry (numbered entered);
  order = entries_sorted entered;
}
