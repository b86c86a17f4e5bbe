-- Laws on sums over a table by an index.
use Prim.Native.Nat.{ℕ, zero, suc, ◌+◌, ◌≤◌}
use native.Mathlib.Omega.{arith}
use native.Mathlib.Nat.{add-zero, zero-add}
use mathlib.Core.Path.{◌≡◌, refl, ap}
use mathlib.Core.Bool.{Bool, true, false}
use lib.Dec.{eqb, ltb}
use borrow.Author.Tests.{eqb-true, eqb-false, ltb-true, ltb-false, lt-ltb, le-ltb}
use Rattle.basics.specs.Choice.{pick}
use Rattle.basics.specs.Lists.{total, table_from, table, sum}
use Rattle.basics.proofs.Cases.{pick_case}

more_from : (k n : ℕ) (f : ℕ → ℕ) → sum (table_from k (suc n) f) ≡ sum (table_from k n f) + f (k + n)
unfolding table_from total
more_from k zero f = omega (arith, ap f (add-zero k))
more_from k (suc n) f = omega (arith, more_from (suc k) n f, ap f (shift k n))
  where
    shift : (k n : ℕ) → suc k + n ≡ k + suc n
    shift k n = omega arith

-- the sum of a table with one entry more is the old sum and that entry
pub sum_more : (n : ℕ) (f : ℕ → ℕ) → sum (table (suc n) f) ≡ sum (table n f) + f n
sum_more n f = omega (arith, more_from 0 n f, ap f (zero-add n))

-- where no entry is above that of another table, the sum is not above the other sum
pub sum_mono : (k n : ℕ) (f g : ℕ → ℕ) → ((i : ℕ) → f i ≤ g i) → sum (table_from k n f) ≤ sum (table_from k n g)
unfolding table_from total
sum_mono k zero f g h = omega arith
sum_mono k (suc n) f g h = omega (arith, sum_mono (suc k) n f g h, h k)

-- the sum of a table of sums is the sum of both tables
pub sum_both : (k n : ℕ) (f g : ℕ → ℕ)
    → sum (table_from k n (λ i. f i + g i)) ≡ sum (table_from k n f) + sum (table_from k n g)
unfolding table_from total
sum_both k zero f g = omega arith
sum_both k (suc n) f g = omega (arith, sum_both (suc k) n f g)

-- a sum of zeros is 0
pub sum_none : (k n : ℕ) → sum (table_from k n (λ i. 0)) ≡ 0
unfolding table_from total
sum_none k zero = refl
sum_none k (suc n) = omega (arith, sum_none (suc k) n)

-- 1 at the index o, and 0 at every other
abbrev pub one_at : ℕ → ℕ → ℕ
one_at o i = pick (eqb o i) 1 0

-- this is at most 1
pub one_at_most : (o i : ℕ) → one_at o i ≤ 1
one_at_most o i = pick_case (λ (n : ℕ). n ≤ 1) (eqb o i) 1 0 (λ e. omega arith) (λ e. omega arith)

-- from k on, the index o comes up once, or not at all if it is below k
met_from : (o k n : ℕ) → sum (table_from k n (one_at o)) ≤ pick (ltb o k) 0 1
unfolding table_from total
met_from o k zero = omega arith
met_from o k (suc n) = by (eqb o k) (ltb o k) refl refl (met_from o (suc k) n)
  where
    above : (eqb o k ≡ false) → (ltb o k ≡ false) → suc k ≤ o
    above e f = apart o (eqb-false o k e) (ltb-false o k f)
      where
        apart : (m : ℕ) → (m ≡ k → ⊥) → k ≤ m → suc k ≤ m
        apart m a b = omega arith

    by : (t u : Bool) → eqb o k ≡ t → ltb o k ≡ u → sum (table_from (suc k) n (one_at o)) ≤ pick (ltb o (suc k)) 0 1
        → pick t 1 0 + sum (table_from (suc k) n (one_at o)) ≤ pick u 0 1
    by true true e f h = absurd (omega (arith, eqb-true o k e, ltb-true o k f))
    by true false e f h = omega (arith, rw (lt-ltb o (suc k) (omega (arith, eqb-true o k e))) at h)
    by false true e f h = omega (arith, rw (lt-ltb o (suc k) (omega (arith, ltb-true o k f))) at h)
    by false false e f h = omega (arith, rw (le-ltb o (suc k) (above e f)) at h)

-- the index o comes up at most once
pub sum_once : (n o : ℕ) → sum (table n (one_at o)) ≤ 1
sum_once n o =
    let h = met_from o 0 n in
    pick_case (λ (m : ℕ). sum (table n (one_at o)) ≤ m → sum (table n (one_at o)) ≤ 1) (ltb o 0) 0 1
    (λ e l. omega arith)
    (λ e l. l)
    h
