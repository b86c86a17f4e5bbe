-- Laws on the cash for parts of an obligation: in whatever parts it is delivered, their cash adds up to what is due.
use Prim.Native.Nat.{ℕ, ◌+◌, ◌≤◌, ◌<◌}
use native.Mathlib.Nat.{mul-le-mul_left, mul-div_cancel, zero-div, mul-zero}
use native.Mathlib.Omega.{arith}
use mathlib.Core.Path.{◌≡◌, ap}
use mathlib.Core.List.{List, [], ◌∷◌}
use Rattle.basics.specs.Lists.{total, sum}
use Rattle.amounts.specs.Amounts.{due_for, cash, cash_of_each}
use Rattle.amounts.proofs.Bounds.{quotient_rises}

-- what is due does not fall when more is settled
pub due_rises : (a q : ℕ) {s t : ℕ} → 0 < q → s ≤ t → due_for a q s ≤ due_for a q t
unfolding due_for
due_rises a q p h = quotient_rises p (mul-le-mul_left a h)

-- nothing is due while nothing is settled
pub due_none : (a q : ℕ) → due_for a q 0 ≡ 0
unfolding due_for
due_none a q = rw mul-zero (zero-div q)

-- the whole amount is due once everything is settled
pub due_whole : (a q : ℕ) → 0 < q → due_for a q q ≡ a
unfolding due_for
due_whole a q p = mul-div_cancel a p

-- the cash of two deliveries, one after the other, is the cash of both at once
pub cash_adds : (a q s t u : ℕ) → 0 < q → s ≤ t → t ≤ u → cash a q s t + cash a q t u ≡ cash a q s u
unfolding cash
cash_adds a q s t u p h k = let e = due_rises a q p h in let f = due_rises a q p k in omega arith

-- the cash for the whole quantity is the amount
pub cash_whole : (a q : ℕ) → 0 < q → cash a q 0 q ≡ a
unfolding cash
cash_whole a q p = rw (due_none a q, due_whole a q p) (omega arith)

-- the cash of several deliveries, one after another, adds up to what is due for all of them
pub cash_parts : (a q s : ℕ) (ns : List ℕ) → 0 < q → sum (cash_of_each a q s ns) + due_for a q s ≡ due_for a q (s + sum ns)
unfolding cash_of_each cash total
cash_parts a q s [] p = let e : s ≡ s + 0 = omega arith in omega (arith, ap (due_for a q) e)
cash_parts a q s (n ∷ ns) p =
    let e = cash_parts a q (s + n) ns p in
    let f = due_rises a q {s = s} {t = s + n} p (omega arith) in
    let g : s + n + sum ns ≡ s + (n + sum ns) = omega arith in
    omega (arith, ap (due_for a q) g)
