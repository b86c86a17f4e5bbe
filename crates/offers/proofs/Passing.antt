-- Laws on the loop of a buy-in. One offer after another gives, and what it gives is put after what the others gave.
use Prim.Native.Nat.{ℕ, ◌+◌, ◌-◌, ◌≤◌, ◌<◌, min}
use native.Mathlib.Omega.{arith}
use native.Mathlib.Nat.{sub-zero}
use mathlib.Core.Path.{◌≡◌, refl, sym, ap, ◌∙◌}
use mathlib.Core.Bool.{Bool, true, false}
use mathlib.Core.List.{List, [], ◌∷◌, ◌++◌, append_assoc, append-nil}
use lib.Dec.{eqb}
use lib.ListN.{length, get_or, set, drop, replicate, length-append, drop_of_length-le}
use borrow.Author.Tests.{eq-eqb, ne_eqb}
use Rattle.basics.specs.Choice.{pick}
use Rattle.basics.specs.Lists.{padded}
use Rattle.basics.proofs.Cases.{pick_case}
use Rattle.basics.proofs.Fronts.{drop_more}
use Rattle.basics.proofs.Places.{padded_more}
use Rattle.offers.specs.declared.Offer.{Offer}
use Rattle.offers.specs.declared.Given.{Given}
use Rattle.offers.specs.declared.BuyIn.{BuyIn}
use Rattle.offers.specs.Held.{most_offers, no_offer}
use Rattle.offers.specs.BuyIn.{offers_for, with_given, given_by, given, nothing_given, bought_with}

-- the quantity that one offer gives to obligation i, of which some quantity is left
abbrev pub quantity_from : Offer → ℕ → ℕ → ℕ
quantity_from x i left = pick (eqb x.obligation i) (min x.quantity left) 0

-- an offer gives no more than is left
pub gives_within : (x : Offer) (i left q : ℕ) → q ≡ quantity_from x i left → q ≤ left
gives_within x i left q e =
    rw e
    (pick_case (λ (n : ℕ). n ≤ left) (eqb x.obligation i) (min x.quantity left) 0
    (λ z. omega arith)
    (λ z. omega arith))

-- After k offers, what they gave fills the first places. With what the others will give, it is what all offers give.
pub record Passed (i left : ℕ) (xs : List Offer) (bought : List Given) (count rest k : ℕ) : Type 0 where
  pub so_far : List Given
  pub few : length so_far ≤ k
  pub places : bought ≡ padded most_offers nothing_given so_far
  pub filled : count ≡ length so_far
  pub made : so_far ++ given i rest (drop k xs) ≡ given i left xs

-- the first offer gives, and then the others give from what it leaves
given_first : (i left : ℕ) (x : Offer) (xs : List Offer)
    → given i left (x ∷ xs) ≡ with_given x (quantity_from x i left) (given i (left - quantity_from x i left) xs)
unfolding given given_by offers_for with_given
given_first i left x xs = by (eqb x.obligation i)
  where
    by : (t : Bool) → given_by left (pick t (x ∷ offers_for i xs) (offers_for i xs))
        ≡ with_given x (pick t (min x.quantity left) 0) (given i (left - pick t (min x.quantity left) 0) xs)
    by true = refl
    by false = ap (λ (n : ℕ). given_by n (offers_for i xs)) (sym (sub-zero left))

with_some : (x : Offer) (q : ℕ) (later : List Given)
    → 0 < q → with_given x q later ≡ record { offer = x; quantity = q } ∷ later
unfolding with_given
with_some x q later h = rw (ne_eqb q 0 (λ e. omega arith))

with_none : (x : Offer) (q : ℕ) (later : List Given) → q ≤ 0 → with_given x q later ≡ later
unfolding with_given
with_none x q later h = rw (eq-eqb q 0 (omega arith))

given_none : (i left : ℕ) → given i left [] ≡ []
unfolding given given_by offers_for
given_none i left = refl

module _ (i left : ℕ) (xs : List Offer) where
  -- before the first offer
  pub passed_none : Passed i left xs (replicate most_offers nothing_given) 0 left 0
  passed_none = record { so_far = []; few = omega arith; places = refl; filled = refl; made = refl }

  -- the same after a branch, where each value is known by an equation
  pub passed_same : {bought bought' : List Given} {count count' rest rest' k : ℕ}
      → bought' ≡ bought → count' ≡ count → rest' ≡ rest
      → Passed i left xs bought count rest k → Passed i left xs bought' count' rest' k
  passed_same b e r p = rw (b, e, r) p

  module _ (bought : List Given) (count rest k : ℕ) (p : Passed i left xs bought count rest k) where
    -- the turn of the offer x, which gives q
    module _ (room : length xs ≤ most_offers) (h : k < length xs)
        (x : Offer) (ex : x ≡ get_or xs k no_offer) (q : ℕ) (eq : q ≡ quantity_from x i rest) where
      next : given i rest (drop k xs) ≡ with_given x q (given i (rest - q) (drop (k + 1) xs))
      next =
          rw (eq, ex) (ap (given i rest) (drop_more xs k no_offer h) ∙ given_first i rest (get_or xs k no_offer) (drop (k + 1) xs))

      -- the case that it gives something
      pub passed_gives : 0 < q
          → Passed i left xs (set bought count (record { offer = x; quantity = q })) (count + 1) (rest - q) (k + 1)
      passed_gives z =
          let g : Given = record { offer = x; quantity = q } in
          let later : List Given = given i (rest - q) (drop (k + 1) xs) in
          record {
            so_far = p.so_far ++ g ∷ [];
            few = omega (arith, p.few, length-append p.so_far (g ∷ []));
            places =
                rw (p.places, p.filled) (padded_more most_offers nothing_given g p.so_far (omega (arith, p.few)));
            filled = omega (arith, p.filled, length-append p.so_far (g ∷ []));
            made = rw (append_assoc, ← with_some x q later z, ← next) p.made;
          }

      -- the case that it gives nothing
      pub passed_over : q ≤ 0 → Passed i left xs bought count rest (k + 1)
      passed_over z =
          let same : given i rest (drop (k + 1) xs) ≡ given i rest (drop k xs) =
          ap (λ (j : ℕ). given i j (drop (k + 1) xs)) (omega arith)
          ∙ sym (with_none x q (given i (rest - q) (drop (k + 1) xs)) z)
          ∙ sym next in
          record {
            so_far = p.so_far;
            few = omega (arith, p.few);
            places = p.places;
            filled = p.filled;
            made = rw same p.made;
          }

    -- after the last offer
    pub passed_all : length xs ≤ k
        → ◌≡◌ {A = BuyIn} (record { given = bought; count = count }) (bought_with (given i left xs))
    passed_all h =
        let all : p.so_far ≡ given i left xs = rw (drop_of_length-le xs {i = k} h, given_none, append-nil) at p.made in
        rw (p.places, p.filled, all)
