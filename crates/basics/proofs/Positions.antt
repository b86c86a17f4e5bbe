-- Laws on the place of the first element that passes a test.
use Rattle.std.proofs.Common.{ℕ, ◌≡◌, ◌≤◌, ◌<◌, ◌⊎◌, inl, inr, Bool, Some, None, List, arith, cond, length, nat_lt, position, unwrap_or}
use Rattle.std.specs.List.{position_or_len}
use Rattle.std.proofs.lemmas.List.Sums.{prefix_len-le-length}
use borrow.Author.Tests.{lt-ltb, le-ltb}
use Rattle.basics.proofs.Cases.{below_or_not}

-- it is not behind the elements
pub place_most : {A : Type 0} (p : A → Bool) (xs : List A) → position_or_len p xs ≤ length xs
place_most p xs = prefix_len-le-length _ xs

-- the place that `position` finds, or the place behind the elements if it finds none
pub first_place : {A : Type 0} (p : A → Bool) (xs : List A) → unwrap_or (position p xs) (length xs) ≡ position_or_len p xs
first_place p xs = by (position_or_len p xs) (length xs) (place_most p xs)
  where
    by : (k n : ℕ) → k ≤ n → unwrap_or (cond (nat_lt k n) (Some k) None) n ≡ k
    by k n h = which (below_or_not k n)
      where
        which : (k < n) ⊎ (n ≤ k) → unwrap_or (cond (nat_lt k n) (Some k) None) n ≡ k
        which (inl l) = rw (lt-ltb k n l)
        which (inr m) = rw (le-ltb k n m) (omega (arith, h, m))
