-- Laws on storing several values in a list, one after another.
use Prim.Native.Nat.{ℕ, zero, suc, ◌+◌, ◌≤◌}
use native.Mathlib.Nat.{add-zero, zero-add, add-suc, suc-add}
use native.Mathlib.Omega.{arith}
use mathlib.Core.Path.{◌≡◌, refl, sym, ap, ◌∙◌}
use mathlib.Core.List.{List, [], ◌∷◌, ◌++◌}
use lib.ListN.{length, set, take, drop, length-set}
use lib.Seq.{sets, sets-eq, set_out, take-append_seam}

-- to store two lists one after the other is to store them together
pub sets_append : {A : Type 0} (l : List A) (i : ℕ) (xs ys : List A)
    → sets l i (xs ++ ys) ≡ sets (sets l i xs) (i + length xs) ys
sets_append l i [] ys = ap (λ (n : ℕ). sets l n ys) (sym (add-zero i))
sets_append l i (x ∷ xs) ys =
    sets_append (set l i x) (suc i) xs ys
    ∙ ap (λ (n : ℕ). sets (sets (set l i x) (suc i) xs) n ys) (suc-add i (length xs) ∙ sym (add-suc i (length xs)))

-- nothing is stored past the end of the list
pub sets_past : {A : Type 0} (l : List A) (i : ℕ) (vs : List A) → length l ≤ i → sets l i vs ≡ l
sets_past l i [] h = refl
sets_past l i (v ∷ vs) h = rw (set_out l i v h) (sets_past l (suc i) vs (omega arith))

-- values that have no place in the list may be left out
pub sets_cut : {A : Type 0} (l : List A) (i n : ℕ) (vs : List A) → length l ≤ i + n → sets l i (take n vs) ≡ sets l i vs
sets_cut l i zero vs h = sym (sets_past l i vs (omega arith))
sets_cut l i (suc n) [] h = refl
sets_cut l i (suc n) (v ∷ vs) h = sets_cut (set l i v) (suc i) n vs (omega (arith, length-set l i v))

-- values that are stored at the front can be read back
pub sets_front : {A : Type 0} (l vs : List A) → length vs ≤ length l → take (length vs) (sets l 0 vs) ≡ vs
sets_front l vs h = rw (sets-eq vs l 0 (omega arith)) (take-append_seam vs (drop (0 + length vs) l))

-- after values are stored at the front, the list is these values and then what was after them
pub sets_ahead : {A : Type 0} (l vs : List A) → length vs ≤ length l → sets l 0 vs ≡ vs ++ drop (length vs) l
sets_ahead l vs h = sets-eq vs l 0 (omega arith) ∙ ap (λ (k : ℕ). vs ++ drop k l) (zero-add (length vs))

-- six stores, one after the other, store six values
pub six_stores : (ws : List ℕ) (k u v w x y z : ℕ) →
    set (set (set (set (set (set ws k u) (k + 1) v) (k + 2) w) (k + 3) x) (k + 4) y) (k + 5) z ≡ sets ws k (u ∷ v ∷ w ∷ x ∷ y ∷ z ∷ [])
six_stores ws k u v w x y z =
    let e1 : k + 1 ≡ suc k = omega arith in
    let e2 : k + 2 ≡ suc (suc k) = omega arith in
    let e3 : k + 3 ≡ suc (suc (suc k)) = omega arith in
    let e4 : k + 4 ≡ suc (suc (suc (suc k))) = omega arith in
    let e5 : k + 5 ≡ suc (suc (suc (suc (suc k)))) = omega arith in
    rw (e1, e2, e3, e4, e5)
