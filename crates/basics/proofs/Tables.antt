-- Laws on tables by an index.
use Prim.Native.Nat.{ℕ, zero, suc, ◌+◌, ◌<◌}
use native.Mathlib.Nat.{zero-add}
use native.Mathlib.Numerals.{add-one}
use native.Mathlib.Omega.{arith}
use mathlib.Core.Path.{◌≡◌, refl, sym, ap, ◌∙◌}
use mathlib.Core.Logic.{⊎_elim}
use mathlib.Core.List.{List, [], ◌∷◌, ◌++◌}
use lib.ListN.{length, get_or, set}
use lib.Seq.{get_or-set_same, get_or-set_other, ext_get_or}
use Rattle.basics.specs.Lists.{table_from, table}
use Rattle.basics.proofs.Cases.{last_or_below}

table_from_length : {A : Type 0} (k n : ℕ) (f : ℕ → A) → length (table_from k n f) ≡ n
unfolding table_from
table_from_length k zero f = refl
table_from_length k (suc n) f = ap suc (table_from_length (suc k) n f)

pub table_length : {A : Type 0} (n : ℕ) (f : ℕ → A) → length (table n f) ≡ n
table_length n f = table_from_length 0 n f

table_from_at : {A : Type 0} (k n : ℕ) (f : ℕ → A) (i : ℕ) (d : A) → i < n → get_or (table_from k n f) i d ≡ f (k + i)
unfolding table_from
table_from_at k zero f i d h = absurd (omega arith)
table_from_at k (suc n) f zero d h = ap f (omega arith)
table_from_at k (suc n) f (suc i) d h = table_from_at (suc k) n f i d (omega arith) ∙ ap f (omega arith)

pub table_at : {A : Type 0} (n : ℕ) (f : ℕ → A) (i : ℕ) (d : A) → i < n → get_or (table n f) i d ≡ f i
table_at n f i d h = table_from_at 0 n f i d h ∙ ap f (zero-add i)

table_from_next : {A : Type 0} (k n : ℕ) (f : ℕ → A) → table_from (suc k) n f ≡ table_from k n (λ i. f (suc i))
unfolding table_from
table_from_next k zero f = refl
table_from_next k (suc n) f = ap (λ xs. f (suc k) ∷ xs) (table_from_next (suc k) n f)

-- a table with one element more has f 0 at its front
pub table_more : {A : Type 0} (n : ℕ) (f : ℕ → A) → table (suc n) f ≡ f 0 ∷ table n (λ i. f (suc i))
unfolding table_from
table_more n f = ap (λ xs. f 0 ∷ xs) (table_from_next 0 n f)

table_from_last : {A : Type 0} (k n : ℕ) (f : ℕ → A) → table_from k (suc n) f ≡ table_from k n f ++ f (k + n) ∷ []
unfolding table_from
table_from_last k zero f = ap (λ (i : ℕ). f i ∷ []) (omega arith)
table_from_last k (suc n) f =
    ap (λ xs. f k ∷ xs) (table_from_last (suc k) n f ∙ ap (λ (i : ℕ). table_from (suc k) n f ++ f i ∷ []) (omega arith))

-- and it has f n at its end
pub table_last : {A : Type 0} (n : ℕ) (f : ℕ → A) → table (n + 1) f ≡ table n f ++ f n ∷ []
table_last n f = rw (add-one n) (table_from_last 0 n f ∙ ap (λ (i : ℕ). table n f ++ f i ∷ []) (zero-add n))

-- a list that has f i at each index i is the table of f
pub is_table : {A : Type 0} (n : ℕ) (f : ℕ → A) (xs : List A) (d : A) → length xs ≡ n → ((i : ℕ) → i < n → get_or xs i d ≡ f i) → xs ≡ table n f
is_table n f xs d h e =
    ext_get_or d xs (table n f) (h ∙ sym (table_length n f)) (λ i l. e i (omega arith) ∙ sym (table_at n f i d (omega arith)))

-- A list holds f of each index below i. With f i stored at i it holds f of each index up to i.
pub filled_more : {A : Type 0} (xs : List A) (d : A) (i : ℕ) (v : A) (f : ℕ → A) → i < length xs → ((k : ℕ) → k < i → get_or xs k d ≡ f k) → v ≡ f i →
    (k : ℕ) → k < i + 1 → get_or (set xs i v) k d ≡ f k
filled_more xs d i v f l h e k b =
    ⊎_elim (λ (q : k ≡ i). rw q (get_or-set_same xs i v d l ∙ e))
    (λ (q : k < i). get_or-set_other xs i k v d (λ z. omega arith) ∙ h k q)
    (last_or_below k i (omega arith))
