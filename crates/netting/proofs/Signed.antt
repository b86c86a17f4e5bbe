-- Laws on signed accounts: how far from zero sums and differences are, what an account claims and owes, and that it is
-- read back from its 64 bits unchanged.
use Rattle.std.proofs.Common.{◌≡◌, ℕ, suc, ◌+◌, ◌≤◌, true, false, refl, ap, ◌∙◌, arith}
use Rattle.std.proofs.lemmas.Int.{ints, fits_signed_from_abs}
use native.Mathlib.Nat.{zero-add}
use lib.Dec.{T}
use lib.IntN.{ℤ, pos, negsuc, neg_ℤ, ◌+ℤ◌, ◌-ℤ◌, nat_abs}
use lib.Signed.{lt_z, non_neg}
use mir.Facts.{to_z-of_z}
use mir.Syntax.{w64}
use mir.Val.{Fits, SFits, to_z, of_z}
use borrow.Author.Tests.{ltb-true, ltb-false}
use Rattle.netting.specs.Accounts.{claim, owed, most_account}

-- a sum is no further from zero than its two parts are together
pub sum_abs : (x y : ℤ) → nat_abs (x +ℤ y) ≤ nat_abs x + nat_abs y
sum_abs x y = omega (arith, ints)

-- −n is as far from zero as n
pub negative_abs : (n : ℕ) → nat_abs (neg_ℤ (pos n)) ≡ n
negative_abs n = omega (arith, ints)

-- no account claims more than its size
pub claim_most : (z : ℤ) → claim z ≤ nat_abs z
claim_most (pos n) = omega arith
claim_most (negsuc n) = omega arith

-- no account owes more than its size
pub owed_most : (z : ℤ) → owed z ≤ nat_abs z
owed_most (pos n) = omega arith
owed_most (negsuc n) = omega arith

-- an account above zero claims its size
pub claim_above : (z : ℤ) → lt_z (pos 0) z ≡ true → nat_abs z ≡ claim z
claim_above (pos n) e = refl
claim_above (negsuc n) e = cc

-- any other claims nothing
pub claim_not_above : (z : ℤ) → lt_z (pos 0) z ≡ false → 0 ≡ claim z
claim_not_above (pos n) e = omega (arith, ltb-false 0 n e)
claim_not_above (negsuc n) e = refl

-- an account below zero owes its size
pub owed_below : (z : ℤ) → lt_z z (pos 0) ≡ true → nat_abs z ≡ owed z
owed_below (pos n) e = absurd (omega (arith, ltb-true n 0 e))
owed_below (negsuc n) e = refl

-- any other owes nothing
pub owed_not_below : (z : ℤ) → lt_z z (pos 0) ≡ false → 0 ≡ owed z
owed_not_below (pos n) e = refl
owed_not_below (negsuc n) e = cc

positive : (z : ℤ) → lt_z (pos 0) z ≡ true → T (non_neg z)
positive (pos n) e = tt
positive (negsuc n) e = cc

negated : (z : ℤ) → lt_z z (pos 0) ≡ true → pos 0 -ℤ z ≡ pos (owed z)
negated (pos n) e = absurd (omega (arith, ltb-true n 0 e))
negated (negsuc n) e = ap pos (zero-add (suc n))

-- an account as it is read back from its bits
abbrev pub read : ℤ → ℤ
read z = to_z w64 (of_z w64 z)

-- what the machine computes from one account
module _ (z : ℤ) (small : nat_abs z ≤ most_account) where
  -- the account is read back unchanged
  pub read_is : read z ≡ z
  read_is = to_z-of_z {w = w64} {z = z} (fits_signed_from_abs w64 z (omega arith))

  module _ (e : lt_z (pos 0) (read z) ≡ true) where
    -- an account above zero fits an unsigned number
    pub claim_fits : T (non_neg (read z)) × Fits w64 (nat_abs (read z))
    claim_fits = rw read_is (positive z (rw read_is at e), record { fits = omega arith })

    -- this number is its claim
    pub claim_is : nat_abs (read z) ≡ claim z
    claim_is = rw read_is (claim_above z (rw read_is at e))

  -- an account that is not above zero claims nothing
  pub claim_none : lt_z (pos 0) (read z) ≡ false → 0 ≡ claim z
  claim_none e = claim_not_above z (rw read_is at e)

  module _ (e : lt_z (read z) (pos 0) ≡ true) where
    size : pos 0 -ℤ read z ≡ pos (owed z)
    size = rw read_is (negated z (rw read_is at e))

    -- for an account below zero, 0 less the account fits a signed number
    pub size_fits : SFits w64 (pos 0 -ℤ read z)
    size_fits = rw size (fits_signed_from_abs w64 (pos (owed z)) (omega (arith, owed_most z)))

    back : read (pos 0 -ℤ read z) ≡ pos (owed z)
    back = to_z-of_z size_fits ∙ size

    -- it also fits an unsigned number
    pub owed_fits : T (non_neg (read (pos 0 -ℤ read z))) × Fits w64 (nat_abs (read (pos 0 -ℤ read z)))
    owed_fits = rw back (tt, record { fits = omega (arith, owed_most z) })

    -- this number is what the account owes
    pub owed_is : nat_abs (read (pos 0 -ℤ read z)) ≡ owed z
    owed_is = rw back

  -- an account that is not below zero owes nothing
  pub owed_none : lt_z (read z) (pos 0) ≡ false → 0 ≡ owed z
  owed_none e = owed_not_below z (rw read_is at e)
