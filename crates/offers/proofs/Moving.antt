-- Laws on the row of a new offer. Each offer from that row on moves by one row, and the new offer takes the row.
use Rattle.std.proofs.Common.{ℕ, suc, ◌+◌, ◌-◌, ◌≤◌, ◌<◌, ◌≡◌, refl, sym, ap, ◌∙◌, Bool, true, false, not, List, [], ◌∷◌, ◌++◌, arith, cond, length, take, drop, set, get_or}
use Rattle.std.specs.List.{position_or_len, copy_within}
use Rattle.std.proofs.lemmas.List.{take-take, drop-take, length-take-le}
use native.Mathlib.Numerals.{add-one}
use mathlib.Core.List.{append_assoc}
use lib.Seq.{take-suc, set-append_seam}
use Rattle.basics.specs.Choice.{pick}
use Rattle.offers.specs.declared.Offer.{Offer}
use Rattle.offers.specs.Rank.{inserted_by}
use Rattle.offers.specs.Held.{no_offer}

-- an element is inserted at the place of the first one that it overtakes
pub inserted_at : {A : Type 0} (over : A → A → Bool) (o : A) (xs : List A) →
    inserted_by over o xs ≡ take (position_or_len (over o) xs) xs ++ o ∷ drop (position_or_len (over o) xs) xs
unfolding inserted_by
inserted_at over o [] = refl
inserted_at over o (y ∷ ys) = by (over o y) (position_or_len (over o) ys) (inserted_at over o ys)
  where
    by : (b : Bool) (k : ℕ) → inserted_by over o ys ≡ take k ys ++ o ∷ drop k ys →
        pick b (o ∷ y ∷ ys) (y ∷ inserted_by over o ys) ≡ take (cond (not b) (1 + k) 0) (y ∷ ys) ++ o ∷ drop (cond (not b) (1 + k) 0) (y ∷ ys)
    by true k e = refl
    by false k e =
        let next : suc k ≡ 1 + k = omega arith in
        ap (λ l. y ∷ l) e ∙ ap (λ j. take j (y ∷ ys) ++ o ∷ drop j (y ∷ ys)) next

module _ (rows : List Offer) (k n : ℕ) (o : Offer) (h : k ≤ n) (room : n < length rows) where
  -- the rows from k on, up to the n-th, move by one, and o takes row k
  pub moved_set : set (copy_within rows k n (k + 1)) k o ≡ (take k (take n rows) ++ o ∷ drop k (take n rows)) ++ drop (n + 1) rows
  moved_set =
      let m : ℕ = n - k in
      let y : Offer = get_or rows k no_offer in
      let front : take (k + 1) rows ≡ take k rows ++ y ∷ [] = rw (add-one k) (take-suc rows k no_offer (omega (arith, h, room))) in
      let whole : copy_within rows k n (k + 1) ≡ take k rows ++ y ∷ (take m (drop k rows) ++ drop (n + 1) rows) =
      ap (λ (j : ℕ). (take (k + 1) rows ++ take m (drop k rows)) ++ drop j rows) (omega (arith, h))
      ∙ ap (λ (l : List Offer). (l ++ take m (drop k rows)) ++ drop (n + 1) rows) front
      ∙ ap (λ (l : List Offer). l ++ drop (n + 1) rows) (append_assoc (take k rows) (y ∷ []) (take m (drop k rows)))
      ∙ append_assoc (take k rows) (y ∷ take m (drop k rows)) (drop (n + 1) rows) in
      let place : length (take k rows) ≡ k = length-take-le k rows (omega (arith, h, room)) in
      let before : take k rows ≡ take k (take n rows) = sym (take-take k n rows h) in
      let behind : take m (drop k rows) ≡ drop k (take n rows) =
      sym (drop-take k m rows) ∙ ap (λ (j : ℕ). drop k (take j rows)) (omega (arith, h)) in
      ap (λ (l : List Offer). set l k o) whole
      ∙ ap (λ (j : ℕ). set (take k rows ++ y ∷ (take m (drop k rows) ++ drop (n + 1) rows)) j o) (sym place)
      ∙ set-append_seam (take k rows) y (take m (drop k rows) ++ drop (n + 1) rows) o
      ∙ ap (λ (l : List Offer). l ++ o ∷ (take m (drop k rows) ++ drop (n + 1) rows)) before
      ∙ ap (λ (l : List Offer). take k (take n rows) ++ o ∷ (l ++ drop (n + 1) rows)) behind
      ∙ sym (append_assoc (take k (take n rows)) (o ∷ drop k (take n rows)) (drop (n + 1) rows))
