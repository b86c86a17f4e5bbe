-- Laws on what a buy-in takes from the offers: how much, from which, and in how many lines.
use Prim.Native.Nat.{ℕ, suc, ◌+◌, ◌-◌, ◌≤◌, ◌<◌, min}
use native.Mathlib.Omega.{arith}
use mathlib.Core.Path.{◌≡◌, refl}
use mathlib.Core.Bool.{Bool, true, false}
use mathlib.Core.List.{List, [], ◌∷◌, Memᴰ}
use lib.ListN.{length}
use lib.Dec.{eqb}
use borrow.Author.Tests.{eqb-true, eqb-false}
use Rattle.basics.specs.Choice.{pick}
use Rattle.basics.specs.Lists.{total, table, sum, Every, Sorted}
use Rattle.basics.specs.Lists.Every.{nobody, also}
use Rattle.basics.specs.Lists.Sorted.{empty, ahead}
use Rattle.basics.proofs.Cases.{pick_case}
use Rattle.offers.specs.declared.Offer.{Offer}
use Rattle.offers.specs.declared.Given.{Given}
use Rattle.offers.specs.BuyIn.{offers_for, with_given, given_by, given, units, offered}
use Rattle.basics.proofs.Everywhere.{every_among}
use Rattle.basics.proofs.TableSums.{sum_mono, sum_both, sum_none, sum_once, one_at, one_at_most}

-- ---- the offers for one obligation
-- each of these offers is for the obligation
pub every_for : (i : ℕ) (xs : List Offer) → Every (λ x. x.obligation ≡ i) (offers_for i xs)
unfolding offers_for
every_for i [] = nobody
every_for i (x ∷ xs) =
    let h = every_for i xs in
    pick_case (Every (λ y. y.obligation ≡ i)) (eqb x.obligation i) (x ∷ offers_for i xs) (offers_for i xs)
    (λ e. also (eqb-true x.obligation i e) h)
    (λ e. h)

-- what holds of every offer holds of each offer for the obligation
pub for_keeps : {P : Offer → Type 0} (i : ℕ) {xs : List Offer} → Every P xs → Every P (offers_for i xs)
unfolding offers_for
for_keeps i nobody = nobody
for_keeps {P} i (also {x = x} {xs = xs} p ps) =
    let h = for_keeps i ps in
    pick_case (Every P) (eqb x.obligation i) (x ∷ offers_for i xs) (offers_for i xs) (λ e. also p h) (λ e. h)

-- the offers for the obligation stand in the order of all offers
pub for_sorted : {R : Offer → Offer → Type 0} (i : ℕ) {xs : List Offer} → Sorted R xs → Sorted R (offers_for i xs)
unfolding offers_for
for_sorted i empty = empty
for_sorted {R} i (ahead {x = x} {xs = xs} a s) =
    let h = for_sorted i s in
    pick_case (Sorted R) (eqb x.obligation i) (x ∷ offers_for i xs) (offers_for i xs)
    (λ e. ahead (for_keeps i a) h)
    (λ e. h)

for_length : (i : ℕ) (x : Offer) (xs : List Offer)
    → length (offers_for i (x ∷ xs)) ≡ one_at x.obligation i + length (offers_for i xs)
unfolding offers_for
for_length i x xs = by (eqb x.obligation i)
  where
    by : (t : Bool) → length (pick t (x ∷ offers_for i xs) (offers_for i xs)) ≡ pick t 1 0 + length (offers_for i xs)
    by true = omega arith
    by false = omega arith

-- they are no more than all offers
pub for_most : (i : ℕ) (xs : List Offer) → length (offers_for i xs) ≤ length xs
unfolding offers_for
for_most i [] = omega arith
for_most i (x ∷ xs) = omega (arith, for_length i x xs, for_most i xs, one_at_most x.obligation i)

-- For all obligations below n together they are no more than all offers, since an offer is for one obligation.
pub for_all_most : (n : ℕ) (xs : List Offer) → sum (table n (λ i. length (offers_for i xs))) ≤ length xs
unfolding offers_for
for_all_most n [] = omega (arith, sum_none 0 n)
for_all_most n (x ∷ xs) =
    omega (
      arith,
      sum_mono 0 n (λ i. length (offers_for i (x ∷ xs))) (λ i. one_at x.obligation i + length (offers_for i xs))
          (λ i. omega (arith, for_length i x xs)),
      sum_both 0 n (one_at x.obligation) (λ i. length (offers_for i xs)),
      sum_once n x.obligation,
      for_all_most n xs,
    )

-- ---- one offer's turn
units_with : (x : Offer) (q : ℕ) (later : List Given) → units (with_given x q later) ≡ q + units later
unfolding with_given total
units_with x q later =
    pick_case (λ (l : List Given). units l ≡ q + units later) (eqb q 0)
    later
    (record { offer = x; quantity = q } ∷ later)
    (λ e. omega (arith, eqb-true q 0 e))
    (λ e. refl)

length_with : (x : Offer) (q : ℕ) (later : List Given) → length (with_given x q later) ≤ suc (length later)
unfolding with_given
length_with x q later =
    pick_case (λ (l : List Given). length l ≤ suc (length later)) (eqb q 0)
    later
    (record { offer = x; quantity = q } ∷ later)
    (λ e. omega arith)
    (λ e. omega arith)

each_with : (P : Given → Type 0) (x : Offer) (q : ℕ) (later : List Given)
    → (0 < q → P (record { offer = x; quantity = q })) → Every P later → Every P (with_given x q later)
unfolding with_given
each_with P x q later p h =
    pick_case (Every P) (eqb q 0) later (record { offer = x; quantity = q } ∷ later)
    (λ e. h)
    (λ e. also (p (positive (eqb-false q 0 e))) h)
  where
    positive : (q ≡ 0 → ⊥) → 0 < q
    positive z = omega arith

-- ---- what the offers of a list give
by_units : (left : ℕ) (xs : List Offer) → units (given_by left xs) ≡ min left (offered xs)
unfolding given_by total
by_units left [] = omega arith
by_units left (x ∷ xs) =
    let q : ℕ = min x.quantity left in
    omega (arith, units_with x q (given_by (left - q) xs), by_units (left - q) xs)

by_most : (left : ℕ) (xs : List Offer) → length (given_by left xs) ≤ length xs
unfolding given_by
by_most left [] = omega arith
by_most left (x ∷ xs) =
    let q : ℕ = min x.quantity left in
    omega (arith, length_with x q (given_by (left - q) xs), by_most (left - q) xs)

-- a given quantity is above 0 and no more than was offered
pub record Within (g : Given) : Type 0 where
  pub some : 0 < g.quantity
  pub most : g.quantity ≤ g.offer.quantity

by_within : (left : ℕ) (xs : List Offer) → Every Within (given_by left xs)
unfolding given_by
by_within left [] = nobody
by_within left (x ∷ xs) =
    let q : ℕ = min x.quantity left in
    each_with Within x q (given_by (left - q) xs)
    (λ z. record { some = z; most = omega arith })
    (by_within (left - q) xs)

by_keeps : {P : Offer → Type 0} (left : ℕ) {xs : List Offer} → Every P xs → Every (λ g. P g.offer) (given_by left xs)
unfolding given_by
by_keeps left nobody = nobody
by_keeps {P} left (also {x = x} {xs = xs} p ps) =
    let q : ℕ = min x.quantity left in
    each_with (λ g. P g.offer) x q (given_by (left - q) xs) (λ z. p) (by_keeps (left - q) ps)

by_sorted : {R : Offer → Offer → Type 0} (left : ℕ) {xs : List Offer} → Sorted R xs
    → Sorted (λ g h. R g.offer h.offer) (given_by left xs)
unfolding given_by with_given
by_sorted left empty = empty
by_sorted {R} left (ahead {x = x} {xs = xs} a s) =
    let q : ℕ = min x.quantity left in
    let h = by_sorted (left - q) s in
    pick_case (Sorted (λ g h. R g.offer h.offer)) (eqb q 0)
    (given_by (left - q) xs)
    (record { offer = x; quantity = q } ∷ given_by (left - q) xs)
    (λ e. h)
    (λ e. ahead (by_keeps (left - q) a) h)

-- ---- what the offers for one obligation give
-- the units given are all that is left, or all that is offered for the obligation if that is less
pub given_units : (i left : ℕ) (xs : List Offer) → units (given i left xs) ≡ min left (offered (offers_for i xs))
unfolding given
given_units i left xs = by_units left (offers_for i xs)

-- each given quantity is above 0 and at most that of its offer
pub given_within : (i left : ℕ) (xs : List Offer) → Every Within (given i left xs)
unfolding given
given_within i left xs = by_within left (offers_for i xs)

-- each quantity is given by an offer for the obligation
pub given_for : (i left : ℕ) (xs : List Offer) → Every (λ g. g.offer.obligation ≡ i) (given i left xs)
unfolding given
given_for i left xs = by_keeps left (every_for i xs)

-- what holds of every offer holds of each offer that gives
pub given_keeps : {P : Offer → Type 0} (i left : ℕ) {xs : List Offer} → Every P xs
    → Every (λ g. P g.offer) (given i left xs)
unfolding given
given_keeps i left h = by_keeps left (for_keeps i h)

-- each quantity is given by one of the offers
pub given_among : (i left : ℕ) (xs : List Offer) → Every (λ g. Memᴰ g.offer xs) (given i left xs)
given_among i left xs = given_keeps i left (every_among xs)

-- the offers give in the order of all offers
pub given_sorted : {R : Offer → Offer → Type 0} (i left : ℕ) {xs : List Offer} → Sorted R xs
    → Sorted (λ g h. R g.offer h.offer) (given i left xs)
unfolding given
given_sorted i left s = by_sorted left (for_sorted i s)

-- no more offers give than are made for the obligation
pub given_for_most : (i left : ℕ) (xs : List Offer) → length (given i left xs) ≤ length (offers_for i xs)
unfolding given
given_for_most i left xs = by_most left (offers_for i xs)

-- no more offers give than there are
pub given_most : (i left : ℕ) (xs : List Offer) → length (given i left xs) ≤ length xs
given_most i left xs = omega (arith, given_for_most i left xs, for_most i xs)

-- for all obligations below n together, whatever is left of each, no more offers give than there are
pub given_all_most : (n : ℕ) (left : ℕ → ℕ) (xs : List Offer)
    → sum (table n (λ i. length (given i (left i) xs))) ≤ length xs
given_all_most n left xs =
    omega (
      arith,
      sum_mono 0 n (λ i. length (given i (left i) xs)) (λ i. length (offers_for i xs))
          (λ i. given_for_most i (left i) xs),
      for_all_most n xs,
    )
