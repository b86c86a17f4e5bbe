-- Laws on insertion by any test `over`, where `over x y` says that a later x overtakes an earlier y.
use Prim.Native.Nat.{suc}
use mathlib.Core.Path.{◌≡◌, refl, ap, ◌∙◌}
use mathlib.Core.Bool.{Bool, true, false}
use mathlib.Core.List.Permᴰ
use mathlib.Core.List.{List, [], ◌∷◌, map, Perm, Permᴰ}
use lib.ListN.{length}
use Rattle.basics.specs.Choice.{pick}
use Rattle.basics.specs.Lists.{Every, Sorted}
use Rattle.basics.specs.Lists.Every.{nobody, also}
use Rattle.basics.specs.Lists.Sorted.{empty, ahead}
use Rattle.basics.proofs.Cases.{pick_case}
use Rattle.offers.specs.Rank.{inserted_by, ranked_by}
use Rattle.basics.proofs.Everywhere.{every_map, every_all}

-- x may stand ahead of y if y does not overtake it
abbrev pub Kept : {A : Type 0} → (A → A → Bool) → A → A → Type 0
Kept over x y = over y x ≡ false

-- The two laws of an order. If x overtakes y, then x may stand ahead of y. If x may stand ahead of y and y ahead of z,
-- then x may stand ahead of z.
pub record Ranks {A : Type 0} (over : A → A → Bool) : Type 0 where
  pub total : (x y : A) → over x y ≡ true → Kept over x y
  pub transitive : (x y z : A) → Kept over x y → Kept over y z → Kept over x z

-- R holds of o and y in the order in which the test puts them
pub record Placed {A : Type 0} (over : A → A → Bool) (R : A → A → Type 0) (o y : A) : Type 0 where
  pub first : over o y ≡ true → R o y
  pub behind : over o y ≡ false → R y o

module _ {A : Type 0} (over : A → A → Bool) (o : A) where
  -- insertion keeps what holds of every element
  pub every_inserted : {P : A → Type 0} {xs : List A} → P o → Every P xs → Every P (inserted_by over o xs)
  unfolding inserted_by
  every_inserted p nobody = also p nobody
  every_inserted {P} p (also {x = y} {xs = ys} q qs) =
      let h = every_inserted p qs in
      pick_case (Every P) (over o y) (o ∷ y ∷ ys) (y ∷ inserted_by over o ys) (λ e. also p (also q qs)) (λ e. also q h)

  -- insertion makes a list longer by one
  pub length_inserted : (xs : List A) → length (inserted_by over o xs) ≡ suc (length xs)
  unfolding inserted_by
  length_inserted [] = refl
  length_inserted (y ∷ ys) =
      let h = length_inserted ys in
      pick_case (λ (l : List A). length l ≡ suc (suc (length ys))) (over o y) (o ∷ y ∷ ys) (y ∷ inserted_by over o ys)
      (λ e. refl)
      (λ e. ap suc h)

  inserted_permᴰ : (xs : List A) → Permᴰ (inserted_by over o xs) (o ∷ xs)
  unfolding inserted_by
  inserted_permᴰ [] = Permᴰ.refl (o ∷ [])
  inserted_permᴰ (y ∷ ys) =
      let h = inserted_permᴰ ys in
      pick_case (λ (l : List A). Permᴰ l (o ∷ y ∷ ys)) (over o y) (o ∷ y ∷ ys) (y ∷ inserted_by over o ys)
      (λ e. Permᴰ.refl (o ∷ y ∷ ys))
      (λ e. Permᴰ.trans (Permᴰ.cons refl h) (Permᴰ.swap refl refl))

  -- insertion keeps a list sorted by each transitive relation that the test respects
  pub inserted_sorted : (R : A → A → Type 0) → ((x y z : A) → R x y → R y z → R x z)
      → {xs : List A} → Every (Placed over R o) xs → Sorted R xs → Sorted R (inserted_by over o xs)
  unfolding inserted_by
  inserted_sorted R t nobody empty = ahead nobody empty
  inserted_sorted R t (also {x = y} {xs = ys} f fs) (ahead h s) =
      let i = inserted_sorted R t fs s in
      pick_case (Sorted R) (over o y) (o ∷ y ∷ ys) (y ∷ inserted_by over o ys)
      (λ e. ahead (also (f.first e) (every_map (λ z r. t _ _ _ (f.first e) r) h)) (ahead h s))
      (λ e. ahead (every_inserted (f.behind e) h) i)

module _ {A : Type 0} (over : A → A → Bool) where
  ranked_permᴰ : (xs : List A) → Permᴰ (ranked_by over xs) xs
  unfolding ranked_by
  ranked_permᴰ [] = Permᴰ.refl []
  ranked_permᴰ (o ∷ xs) =
      Permᴰ.trans (inserted_permᴰ over o (ranked_by over xs)) (Permᴰ.cons refl (ranked_permᴰ xs))

  -- the ranked elements are those that were entered, each once
  pub ranked_perm : (xs : List A) → Perm (ranked_by over xs) xs
  ranked_perm xs = ∣ ranked_permᴰ xs ∣₁

module _ {A : Type 0} (over : A → A → Bool) (laws : Ranks over) where
  -- a list in order stays in order when one element is inserted
  pub inserted_keeps : (o : A) {xs : List A} → Sorted (Kept over) xs → Sorted (Kept over) (inserted_by over o xs)
  inserted_keeps o {xs} s =
      inserted_sorted over o (Kept over) laws.transitive
      (every_all (λ y. record { first = laws.total o y; behind = λ e. e }) xs)
      s

-- ranking by a test on a part g of each element
module _ {A B : Type 0} (g : A → B) (over : B → B → Bool) where
  abbrev by_part : A → A → Bool
  by_part x y = over (g x) (g y)

  map_inserted : (o : A) (xs : List A) → map g (inserted_by by_part o xs) ≡ inserted_by over (g o) (map g xs)
  unfolding inserted_by
  map_inserted o [] = refl
  map_inserted o (y ∷ ys) = by (over (g o) (g y)) (map_inserted o ys)
    where
      by : (t : Bool) → map g (inserted_by by_part o ys) ≡ inserted_by over (g o) (map g ys)
          → map g (pick t (o ∷ y ∷ ys) (y ∷ inserted_by by_part o ys))
          ≡ pick t (g o ∷ g y ∷ map g ys) (g y ∷ inserted_by over (g o) (map g ys))
      by true h = refl
      by false h = ap (λ (l : List B). g y ∷ l) h

  -- to rank elements by that test and take their parts is to rank the parts
  pub map_ranked : (xs : List A) → map g (ranked_by (λ x y. over (g x) (g y)) xs) ≡ ranked_by over (map g xs)
  unfolding ranked_by
  map_ranked [] = refl
  map_ranked (o ∷ xs) = map_inserted o (ranked_by by_part xs) ∙ ap (inserted_by over (g o)) (map_ranked xs)
