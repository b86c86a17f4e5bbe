-- Laws on how large amounts can be.
use Prim.Native.Nat.{ℕ, ◌+◌, ◌*◌, ◌/◌, ◌≤◌, ◌<◌}
use native.Mathlib.Nat.{mul-le-mul, le-div_iff_mul-le, div-add-mod', mod-lt}
use native.Mathlib.Omega.{arith}
use Rattle.amounts.specs.Amounts.{most_quantity, most_close_price, most_rate, most_penalty, value, penalty}
use Rattle.amounts.specs.Quotients.{rounded}

-- the product of two numbers is at most the product of their bounds
pub product_most : (a b m n : ℕ) → a ≤ m → b ≤ n → a * b ≤ m * n
product_most a b m n h k = mul-le-mul h k

-- a quotient does not fall when the dividend grows
pub quotient_rises : {x y k : ℕ} → 0 < k → x ≤ y → x / k ≤ y / k
quotient_rises {x} {y} {k} p h = (le-div_iff_mul-le {k = k} {x = x / k} {y = y} p).1 (omega (arith, div-add-mod' x k))

-- The rounded quotient is the nearest: times the divisor it is within half the divisor of n, and an exact half goes up.
pub rounded_near : (n d : ℕ) → 0 < d → (rounded n d * d ≤ n + d / 2) × (n + d / 2 < rounded n d * d + d)
unfolding rounded
rounded_near n d h = let e = div-add-mod' (n + d / 2) d in let l = mod-lt (n + d / 2) h in (omega arith, omega arith)

-- the value of a quantity within the limits, at a price that is at most this
pub value_most : {q price : ℕ} (most : ℕ) → q ≤ most_quantity → price ≤ most → value q price ≤ most_quantity * most
unfolding value
value_most most h k = mul-le-mul h k

-- no penalty is above the largest
pub penalty_most : (q price rate : ℕ) → q ≤ most_quantity → price ≤ most_close_price → rate ≤ most_rate → penalty q price rate ≤ most_penalty
unfolding penalty rounded
penalty_most q price rate h k l =
    let m : value q price * rate ≤ 1500000000000 = mul-le-mul (value_most most_close_price h k) l in
    omega arith
