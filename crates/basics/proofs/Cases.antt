-- Cases of a test, and of an index.
use Prim.Native.Nat.{ℕ, suc, ◌≤◌, ◌<◌}
use native.Mathlib.Omega.{arith}
use mathlib.Core.Path.{◌≡◌, refl, sym, ◌∙◌}
use mathlib.Core.Bool.{Bool, true, false, ◌&&◌, ◌||◌}
use mathlib.Core.Logic.{◌⊎◌, inl, inr}
use mathlib.Core.List.{List, map}
use lib.Dec.{ltb, eqb}
use lib.ListN.{length, length-map}
use borrow.Author.Tests.{ltb-true, ltb-false, lt-ltb, le-ltb, eq-eqb, ne_eqb}
use Rattle.basics.specs.Choice.{pick}

-- a test does not both fail and hold
pub never : false ≡ true → ⊥
never e = let z : ◌≡◌ {A = ℕ} 0 1 = cc in omega arith

-- two tests are the same if the second comes out as the first does
pub same_test : (s t : Bool) → (s ≡ true → t ≡ true) → (s ≡ false → t ≡ false) → s ≡ t
same_test true t f g = sym (f refl)
same_test false t f g = sym (g refl)

-- A fact about a choice follows if it is shown for each outcome of the test.
pub pick_case : {A : Type 0} (P : A → Type 0) (t : Bool) (a b : A) → (t ≡ true → P a) → (t ≡ false → P b) → P (pick t a b)
pick_case P true a b f g = f refl
pick_case P false a b f g = g refl

-- an index below n + 1 is n or below n
pub last_or_below : (k n : ℕ) → k < suc n → (k ≡ n) ⊎ (k < n)
last_or_below k n h = by (ltb k n) refl
  where
    by : (b : Bool) → ltb k n ≡ b → (k ≡ n) ⊎ (k < n)
    by true e = inr (ltb-true k n e)
    by false e = let l = ltb-false k n e in inl (omega arith)

-- one of two numbers is below the other, or it is not
pub below_or_not : (a b : ℕ) → (a < b) ⊎ (b ≤ a)
below_or_not a b = by (ltb a b) refl
  where
    by : (t : Bool) → ltb a b ≡ t → (a < b) ⊎ (b ≤ a)
    by true e = inl (ltb-true a b e)
    by false e = inr (ltb-false a b e)

-- A comparison of two numbers, in which another test decides where they are the same, has three cases.
pub lesser_case : (P : Bool → Type 0) (a b : ℕ) (t : Bool) → (a < b → P true) → (b < a → P false) → (a ≡ b → P t)
    → P (pick (ltb a b) true (pick (ltb b a) false t))
lesser_case P a b t less more same = by (ltb a b) (ltb b a) refl refl
  where
    by : (u v : Bool) → ltb a b ≡ u → ltb b a ≡ v → P (pick u true (pick v false t))
    by true v e f = less (ltb-true a b e)
    by false true e f = more (ltb-true b a f)
    by false false e f = same (omega (arith, ltb-false a b e, ltb-false b a f))

-- the same comparison as code has it
pub lesser_or_same : (a b : ℕ) (t : Bool) → pick (ltb a b) true (pick (ltb b a) false t) ≡ (ltb a b || (eqb a b && t))
lesser_or_same a b t =
    lesser_case (λ u. u ≡ (ltb a b || (eqb a b && t))) a b t
    (λ l. rw (lt-ltb a b l))
    (λ l. rw (le-ltb a b (omega arith), ne_eqb a b (λ e. omega arith)))
    (λ e. rw (le-ltb a b (omega arith), eq-eqb a b e))

-- The length of an array of structs. The checker states it of the array as it lies in memory.
pub length_mapped : {X Y : Type 0} (f : X → Y) (l : List X) (n : ℕ) → length (map f l) ≡ n → length l ≡ n
length_mapped f l n e = sym (length-map l f) ∙ e

-- where "or" fails, both tests fail
pub or_false : {a b : Bool} → (a || b) ≡ false → (a ≡ false) × (b ≡ false)
or_false {a} {b} = by a b
  where
    by : (s t : Bool) → (s || t) ≡ false → (s ≡ false) × (t ≡ false)
    by true t e = absurd (never (sym e))
    by false t e = (refl, e)

-- where "and" holds, both tests hold
pub and_true : (a b : Bool) → (a && b) ≡ true → (a ≡ true) × (b ≡ true)
and_true true b e = (refl, e)
and_true false b e = absurd (never e)

-- "and" fails where its second test fails
pub and_no : (t : Bool) → (t && false) ≡ false
and_no true = refl
and_no false = refl
