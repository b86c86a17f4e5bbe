-- Laws on sums over lists.
use Prim.Native.Nat.{ℕ, zero, suc, ◌+◌, ◌*◌, ◌≤◌, ◌<◌}
use native.Mathlib.Nat.{suc-mul}
use native.Mathlib.Omega.{arith}
use native.Mathlib.Numerals.{add-one}
use mathlib.Core.Path.{◌≡◌, refl}
use mathlib.Core.List.{List, [], ◌∷◌, ◌++◌}
use lib.ListN.{length, get_or, set, drop, drop_of_length-le}
use lib.Seq.{drop-cons}
use Rattle.basics.specs.Lists.{total, sum, Every}
use Rattle.basics.specs.Lists.Every.{nobody, also}

-- the sum over two lists together is the sum over the one and over the other
pub total_append : {A : Type 0} (f : A → ℕ) (xs ys : List A) → total f (xs ++ ys) ≡ total f xs + total f ys
unfolding total
total_append f [] ys = omega arith
total_append f (x ∷ xs) ys = omega (arith, total_append f xs ys)

-- no element is above the sum
pub one_most : (xs : List ℕ) (k : ℕ) → get_or xs k 0 ≤ sum xs
unfolding total
one_most [] k = omega arith
one_most (x ∷ xs) zero = omega arith
one_most (x ∷ xs) (suc k) = let e = one_most xs k in omega arith

-- if no element is above b, the sum is at most b times their number
pub sum_most : (xs : List ℕ) (b : ℕ) → ((k : ℕ) → k < length xs → get_or xs k 0 ≤ b) → sum xs ≤ length xs * b
unfolding total
sum_most [] b h = omega arith
sum_most (x ∷ xs) b h =
    let e = sum_most xs b (λ k l. h (suc k) (omega arith)) in
    let f = h 0 (omega arith) in
    let g = suc-mul (length xs) b in
    omega arith

-- the sum from a place on is the element at that place and the sum after it
pub rest_of : (xs : List ℕ) (i : ℕ) → i < length xs → sum (drop i xs) ≡ get_or xs i 0 + sum (drop (i + 1) xs)
unfolding total
rest_of xs i h = rw (add-one, drop-cons xs i 0 h)

pub none_left : (xs : List ℕ) (i : ℕ) → length xs ≤ i → sum (drop i xs) ≡ 0
unfolding total
none_left xs i h = rw (drop_of_length-le xs {i = i} h)

-- how a sum changes with one element
pub total_set : {A : Type 0} (f : A → ℕ) (xs : List A) (i : ℕ) (v d : A) → i < length xs →
    total f (set xs i v) + f (get_or xs i d) ≡ total f xs + f v
unfolding total
total_set f [] i v d h = absurd (omega arith)
total_set f (x ∷ xs) zero v d h = omega arith
total_set f (x ∷ xs) (suc i) v d h = omega (arith, total_set f xs i v d (omega arith))

-- a sum of zeros is 0
pub total_none : {A : Type 0} (f : A → ℕ) {xs : List A} → Every (λ x. f x ≡ 0) xs → total f xs ≡ 0
unfolding total
total_none f nobody = refl
total_none f (also e es) = omega (arith, total_none f es)
