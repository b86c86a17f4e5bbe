-- Laws on the division of a product: which quotient and remainder it has, and how large the quotient is.
use Prim.Native.Nat.{ℕ, ◌+◌, ◌*◌, ◌/◌, ◌%◌, ◌≤◌, ◌<◌}
use native.Mathlib.Nat.{add-mul, mul-le-mul_right, div-add-mod', div-eq_of_lt-le, div-le_of_le-mul, mul-zero, zero-div, zero-mod}
use native.Mathlib.Omega.{arith}
use mathlib.Core.Path.{◌≡◌, sym, ap, ap₂}
use Rattle.amounts.specs.declared.Divided.{Divided}
use Rattle.amounts.specs.Quotients.{divided}

-- a quotient and a remainder that is below the divisor are those of the division
pub divided_is : (p : Divided) (n d : ℕ) → p.quotient * d + p.remainder ≡ n → p.remainder < d → p ≡ divided n d
divided_is p n d whole less =
    let f : p.quotient * d + d ≡ (p.quotient + 1) * d = omega (arith, add-mul p.quotient 1 d) in
    let q : n / d ≡ p.quotient = div-eq_of_lt-le d (omega arith) (omega arith) in
    let r : n % d ≡ p.remainder = omega (arith, div-add-mod' n d, ap (λ (x : ℕ). x * d) q) in
    ap₂ (λ (x y : ℕ). record { quotient = x; remainder = y }) (sym q) (sym r)

-- the division of 0
pub divided_none : (c d : ℕ) → record { quotient = 0; remainder = 0 } ≡ divided (c * 0) d
divided_none c d = rw (mul-zero, zero-div, zero-mod)

-- c is part of a whole, so c times a number, divided by the whole, is at most that number
pub part_most : (c f w : ℕ) → c ≤ w → c * f / w ≤ f
part_most c f w within = div-le_of_le-mul w (mul-le-mul_right f within)
