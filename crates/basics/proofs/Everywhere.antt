-- Laws on what holds of every element of a list.
use Prim.Native.Nat.{ℕ, zero, suc, ◌<◌}
use native.Mathlib.Omega.{arith}
use mathlib.Core.Path.{refl, sym, subst}
use mathlib.Core.List.{List, [], ◌∷◌, ◌++◌, Memᴰ}
use lib.ListN.{length, get_or, set}
use Rattle.basics.specs.Lists.{Every}
use Rattle.basics.specs.Lists.Every.{nobody, also}

-- if P holds of every element and Q follows from P, Q holds of every element
pub every_map : {A : Type 0} {P Q : A → Type 0} (f : (x : A) → P x → Q x) {xs : List A} → Every P xs → Every Q xs
every_map f nobody = nobody
every_map f (also p ps) = also (f _ p) (every_map f ps)

-- what holds of every value holds of every element
pub every_all : {A : Type 0} {P : A → Type 0} → ((x : A) → P x) → (xs : List A) → Every P xs
every_all f [] = nobody
every_all f (x ∷ xs) = also (f x) (every_all f xs)

-- every element is a member of the list
pub every_among : {A : Type 0} (xs : List A) → Every (λ x. Memᴰ x xs) xs
every_among [] = nobody
every_among (x ∷ xs) = also (Memᴰ.head refl) (every_map (λ y m. Memᴰ.tail m) (every_among xs))

-- what holds of every element holds of the element at an index
pub every_at : {A : Type 0} {P : A → Type 0} {xs : List A}
    → Every P xs → (k : ℕ) (d : A) → k < length xs → P (get_or xs k d)
every_at nobody k d h = absurd (omega arith)
every_at (also p ps) zero d h = p
every_at (also p ps) (suc k) d h = every_at ps k d (omega arith)

-- what holds of every element of two lists holds of every element of both together
pub every_append : {A : Type 0} {P : A → Type 0} {xs ys : List A} → Every P xs → Every P ys → Every P (xs ++ ys)
every_append nobody qs = qs
every_append (also p ps) qs = also p (every_append ps qs)

-- What holds of every element still holds after one is replaced, if it holds of the new one.
pub every_set : {A : Type 0} {P : A → Type 0} {xs : List A} → Every P xs → (n : ℕ) (v : A) → P v → Every P (set xs n v)
every_set nobody n v q = nobody
every_set (also p ps) zero v q = also q ps
every_set (also p ps) (suc n) v q = also p (every_set ps n v q)

-- what holds of every element holds of each member
pub every_member : {A : Type 0} (P : A → Type 0) {x : A} {xs : List A} → Every P xs → Memᴰ x xs → P x
every_member P nobody m = elim m [ ]
every_member P (also p ps) (Memᴰ.head e) = subst P (sym e) p
every_member P (also p ps) (Memᴰ.tail m) = every_member P ps m
