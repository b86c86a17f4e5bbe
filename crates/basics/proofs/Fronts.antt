-- Laws on parts of a list: its front, the elements from one place up to another, and those up to the first that equals
-- a given number.
use Prim.Native.Nat.{ℕ, zero, suc, ◌+◌, ◌-◌, ◌≤◌, ◌<◌}
use native.Mathlib.Omega.{arith}
use native.Mathlib.Numerals.{add-one}
use mathlib.Core.Path.{◌≡◌, refl, sym, ap, ◌∙◌}
use mathlib.Core.Bool.{Bool, true, false}
use mathlib.Core.List.{List, [], ◌∷◌, ◌++◌}
use lib.Dec.{eqb}
use lib.ListN.{length, get_or, take, drop}
use lib.Seq.{drop-cons, drop-drop, take-nil}
use borrow.Author.Tests.{eq-eqb, ne_eqb, eqb-true}
use Rattle.basics.specs.Choice.{pick}
use Rattle.basics.specs.Lists.{between, up_to}
use Rattle.basics.proofs.Cases.{pick_case}

-- ---- fronts
-- the front of a list may be cut twice
pub take_again : {A : Type 0} (n : ℕ) (xs ys : List A) → take n (take n xs ++ ys) ≡ take n (xs ++ ys)
take_again zero xs ys = refl
take_again (suc n) [] ys = refl
take_again (suc n) (x ∷ xs) ys = ap (λ l. x ∷ l) (take_again n xs ys)

-- to leave out the first k elements of a front is to take a front of the other elements
drop_take : {A : Type 0} (k m n : ℕ) (xs : List A) → n ≡ k + m → drop k (take n xs) ≡ take m (drop k xs)
drop_take zero m n xs e = let same : n ≡ m = omega arith in ap (λ (j : ℕ). take j xs) same
drop_take (suc k) m zero xs e = absurd (omega arith)
drop_take (suc k) m (suc n) [] e = sym (take-nil m)
drop_take (suc k) m (suc n) (x ∷ xs) e = drop_take k m n xs (omega arith)

-- from a place on there are the element at that place and then the others
pub drop_more : {A : Type 0} (xs : List A) (at : ℕ) (d : A) → at < length xs → drop at xs ≡ get_or xs at d ∷ drop (at + 1) xs
drop_more xs at d h = rw (add-one at) (drop-cons xs at d h)

-- ---- from one place up to another
-- no elements lie between a place and one that is not after it
pub between_none : (xs : List ℕ) (at to : ℕ) → to ≤ at → between at to xs ≡ []
between_none xs at to h = let e : to - at ≡ 0 = omega arith in rw e

-- between two places there are the element at the first and then the others
pub between_more : (xs : List ℕ) (at to : ℕ) → at < to → to ≤ length xs
    → between at to xs ≡ get_or xs at 0 ∷ between (at + 1) to xs
between_more xs at to h l =
    let e : to - at ≡ suc (to - (at + 1)) = omega arith in
    rw (e, drop_more xs at 0 (omega arith))

-- without its first k elements, a part begins k places later
pub between_behind : (from to k : ℕ) (xs : List ℕ) → from + k ≤ to → drop k (between from to xs) ≡ between (from + k) to xs
between_behind from to k xs h =
    let e : to - from ≡ k + (to - (from + k)) = omega arith in
    drop_take k (to - (from + k)) (to - from) (drop from xs) e
    ∙ ap (take (to - (from + k))) (drop-drop k from xs)

-- ---- the elements ahead of the first that equals a given number
-- an empty list has nothing up to a number
pub up_past : (x : ℕ) {xs : List ℕ} → xs ≡ [] → up_to x xs ≡ []
unfolding up_to
up_past x e = rw e

-- where the list begins with the number, nothing is ahead of it
pub up_ends : (x : ℕ) {y : ℕ} {xs ys : List ℕ} → xs ≡ y ∷ ys → y ≡ x → up_to x xs ≡ []
unfolding up_to
up_ends x {y} e s = rw (e, eq-eqb y x s)

-- where the list begins with another number, this one is the first of the elements ahead
pub up_goes_on : (x : ℕ) {y : ℕ} {xs ys : List ℕ} → xs ≡ y ∷ ys → (y ≡ x → ⊥) → up_to x xs ≡ y ∷ up_to x ys
unfolding up_to
up_goes_on x {y} e s = rw (e, ne_eqb y x s)

-- the elements ahead are no more than the list has
pub up_most : (x : ℕ) (xs : List ℕ) → length (up_to x xs) ≤ length xs
unfolding up_to
up_most x [] = omega arith
up_most x (y ∷ ys) =
    pick_case (λ (l : List ℕ). length l ≤ suc (length ys)) (eqb y x) [] (y ∷ up_to x ys)
    (λ e. omega arith)
    (λ e. omega (arith, up_most x ys))

-- the elements ahead are the front of the list
pub up_taken : (x : ℕ) (xs : List ℕ) → take (length (up_to x xs)) xs ≡ up_to x xs
unfolding up_to
up_taken x [] = refl
up_taken x (y ∷ ys) =
    pick_case (λ (l : List ℕ). take (length l) (y ∷ ys) ≡ l) (eqb y x) [] (y ∷ up_to x ys)
    (λ e. refl)
    (λ e. ap (λ (l : List ℕ). y ∷ l) (up_taken x ys))

-- if they are as many as the list has, they are the whole list
pub up_all : (x : ℕ) (xs : List ℕ) → length xs ≤ length (up_to x xs) → up_to x xs ≡ xs
unfolding up_to
up_all x [] h = refl
up_all x (y ∷ ys) h = by (eqb y x) h (up_all x ys)
  where
    by : (t : Bool) → suc (length ys) ≤ length (pick t [] (y ∷ up_to x ys))
        → (length ys ≤ length (up_to x ys) → up_to x ys ≡ ys) → pick t [] (y ∷ up_to x ys) ≡ y ∷ ys
    by true g more = absurd (omega arith)
    by false g more = ap (λ (l : List ℕ). y ∷ l) (more (omega arith))

-- If they are fewer, the list is these elements, then the number, and then the others.
pub up_split : (x : ℕ) (xs : List ℕ) → length (up_to x xs) < length xs
    → xs ≡ up_to x xs ++ x ∷ drop (suc (length (up_to x xs))) xs
unfolding up_to
up_split x [] h = absurd (omega arith)
up_split x (y ∷ ys) h = by (eqb y x) refl h (up_split x ys)
  where
    by : (t : Bool) → eqb y x ≡ t → length (pick t [] (y ∷ up_to x ys)) < suc (length ys)
        → (length (up_to x ys) < length ys → ys ≡ up_to x ys ++ x ∷ drop (suc (length (up_to x ys))) ys)
        → y ∷ ys ≡ pick t [] (y ∷ up_to x ys) ++ x ∷ drop (length (pick t [] (y ∷ up_to x ys))) ys
    by true e g more = ap (λ (z : ℕ). z ∷ ys) (eqb-true y x e)
    by false e g more = ap (λ (l : List ℕ). y ∷ l) (more (omega arith))
