-- Sums, counts and tables of the definitions in the library's words, which say what a chain of iterators returns.
use Rattle.std.proofs.Common.{◌≡◌, ℕ, zero, suc, ◌+◌, Bool, true, false, cond, List, refl, arith}
use Rattle.std.specs.List as lists
use Rattle.std.proofs.lemmas.List.{map-id}
use Rattle.std.proofs.lemmas.List.FromFn.{sum_by-map-range_with_len_more}
use Rattle.std.proofs.lemmas.List.Recursion.{is_sum_by}
use Rattle.basics.specs.Choice.{pick}
use Rattle.basics.specs.Lists.{total, sum, count_below}

-- the sum of a list is the library's
pub sum_is : (xs : List ℕ) → sum xs ≡ lists.sum xs
unfolding total
sum_is xs = is_sum_by sum (λ x. x) refl (λ x xs. refl) xs

count_more : (n k : ℕ) (p : ℕ → Bool) → k ≡ n + 1 → lists.count_by p (lists.range_with_len 0 k) ≡ lists.count_by p (lists.range_with_len 0 n) + cond (p n) 1 0
count_more n k p e =
    rw (e, ← map-id (lists.range_with_len 0 (n + 1)), ← map-id (lists.range_with_len 0 n))
    (sum_by-map-range_with_len_more (λ m. cond (p m) 1 0) (λ m. m) 0 n n (omega arith))

-- the count of the numbers below n is the library's
pub count_is : (n : ℕ) (p : ℕ → Bool) → count_below n p ≡ lists.count_by p (lists.range_with_len 0 n)
unfolding count_below
count_is zero p = refl
count_is (suc n) p = by (p n) (count_is n p) (count_more n (suc n) p (omega arith))
  where
    by : (t : Bool) → count_below n p ≡ lists.count_by p (lists.range_with_len 0 n) →
        lists.count_by p (lists.range_with_len 0 (suc n)) ≡ lists.count_by p (lists.range_with_len 0 n) + cond t 1 0 →
        pick t (count_below n p + 1) (count_below n p) ≡ lists.count_by p (lists.range_with_len 0 (suc n))
    by true ih m = omega arith
    by false ih m = omega arith
