-- Sums over lists, tables by an index, and facts about every element or every two elements of a list.
use Rattle.std.specs.Prelude.{ℕ, zero, suc, ◌+◌, ◌-◌, Bool, List, [], ◌∷◌, ◌++◌, eqb, length, take, drop, replicate}
use Rattle.basics.specs.Choice.{pick}

-- the sum of the numbers that f gives for the elements of a list
unfoldable pub total : {A : Type 0} → (A → ℕ) → List A → ℕ
total f [] = 0
total f (x ∷ xs) = f x + total f xs

-- the sum of a list of numbers
abbrev pub sum : List ℕ → ℕ
sum = total (λ n. n)

-- the list of f k, f (k + 1) and so on, with n elements
unfoldable pub table_from : {A : Type 0} → ℕ → ℕ → (ℕ → A) → List A
table_from k zero f = []
table_from k (suc n) f = f k ∷ table_from (suc k) n f

-- the list of f 0, f 1 and so on, with n elements
abbrev pub table : {A : Type 0} → ℕ → (ℕ → A) → List A
table = table_from 0

-- how many of the numbers below n pass a test; the rank of a claim is counted by it
unfoldable pub count_below : ℕ → (ℕ → Bool) → ℕ
count_below zero p = 0
count_below (suc n) p = pick (p n) (count_below n p + 1) (count_below n p)

-- P holds of every element of a list
pub data Every {A : Type 0} (P : A → Type 0) : List A → Type 0 where
  nobody : Every P []
  also : {x : A} {xs : List A} → P x → Every P xs → Every P (x ∷ xs)

-- R holds of every two elements of a list, the earlier one and the later one
pub data Sorted {A : Type 0} (R : A → A → Type 0) : List A → Type 0 where
  empty : Sorted R []
  ahead : {x : A} {xs : List A} → Every (R x) xs → Sorted R xs → Sorted R (x ∷ xs)

-- a list in the first of n places, as an array holds it; each place after it holds z
abbrev pub padded : {A : Type 0} → ℕ → A → List A → List A
padded n z xs = xs ++ replicate (n - length xs) z

-- a list at the front of another one, as lines are in a lent list; each element after it stays as it was
abbrev pub at_front : {A : Type 0} → List A → List A → List A
at_front xs ys = xs ++ drop (length xs) ys

-- the elements of a list from one place up to another
abbrev pub between : ℕ → ℕ → List ℕ → List ℕ
between from to xs = take (to - from) (drop from xs)

-- the elements of a list before the first that is x
unfoldable pub up_to : ℕ → List ℕ → List ℕ
up_to x [] = []
up_to x (y ∷ ys) = pick (eqb y x) [] (y ∷ up_to x ys)
