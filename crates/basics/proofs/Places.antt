-- Laws on an array whose places are filled from the front.
use Prim.Native.Nat.{ℕ, zero, suc, ◌-◌, ◌≤◌, ◌<◌}
use native.Mathlib.Omega.{arith}
use mathlib.Core.Path.{◌≡◌, refl, ap}
use mathlib.Core.Bool.{Bool, true, false}
use mathlib.Core.List.{List, [], ◌∷◌, ◌++◌, append_assoc}
use lib.ListN.{length, get_or, set, take, replicate, length-append, length-replicate}
use lib.Dec.{eqb}
use lib.Seq.{take-append_seam, get_or-set_same, get_or-set_other}
use borrow.Author.Tests.{eqb-true, eqb-false}
use Rattle.basics.specs.Lists.{padded}

set_behind : {A : Type 0} (xs ys : List A) (y v : A) → set (xs ++ y ∷ ys) (length xs) v ≡ xs ++ v ∷ ys
set_behind [] ys y v = refl
set_behind (x ∷ xs) ys y v = ap (λ l. x ∷ l) (set_behind xs ys y v)

-- storing after the filled places fills one more
pub padded_more : {A : Type 0} (n : ℕ) (z v : A) (xs : List A) → length xs < n → set (padded n z xs) (length xs) v ≡ padded n z (xs ++ v ∷ [])
padded_more n z v xs h =
    let e : n - length xs ≡ suc (n - suc (length xs)) = omega arith in
    let f : length (xs ++ v ∷ []) ≡ suc (length xs) = omega (arith, length-append xs (v ∷ [])) in
    rw (e, f, append_assoc) (set_behind xs (replicate (n - suc (length xs)) z) z v)

pub padded_length : {A : Type 0} (n : ℕ) (z : A) (xs : List A) → length xs ≤ n → length (padded n z xs) ≡ n
padded_length n z xs h = omega (arith, length-append xs (replicate (n - length xs) z), length-replicate (n - length xs) z)

-- the filled places can be read back
pub padded_front : {A : Type 0} (n : ℕ) (z : A) (xs : List A) → take (length xs) (padded n z xs) ≡ xs
padded_front n z xs = take-append_seam xs (replicate (n - length xs) z)

-- to change an element and then take the front is to take the front and then change it
pub take_set : {A : Type 0} (n : ℕ) (xs : List A) (i : ℕ) (v : A) → i < n → take n (set xs i v) ≡ set (take n xs) i v
take_set zero xs i v h = absurd (omega arith)
take_set (suc n) [] i v h = refl
take_set (suc n) (x ∷ xs) zero v h = refl
take_set (suc n) (x ∷ xs) (suc i) v h = ap (λ l. x ∷ l) (take_set n xs i v (omega arith))

-- A fact about an element after one was changed. There are two cases: it is the changed one, or it is another.
pub set_case : {A : Type 0} (P : A → Type 0) (xs : List A) (i k : ℕ) (v d : A) → k < length xs → (k ≡ i → P v) → ((k ≡ i → ⊥) → P (get_or xs k d)) → P (get_or (set xs i v) k d)
set_case P xs i k v d l f g = by (eqb k i) refl
  where
    by : (t : Bool) → eqb k i ≡ t → P (get_or (set xs i v) k d)
    by true e = let q = eqb-true k i e in rw (q, get_or-set_same xs i v d (omega arith)) (f q)
    by false e = let q = eqb-false k i e in rw (get_or-set_other xs i k v d q) (g q)
