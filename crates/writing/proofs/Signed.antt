-- Signed numbers of 64 bits: the machine computes rightly how far each is from zero.
use Prim.Native.Nat.{ℕ, suc, ◌+◌, ◌≤◌}
use native.Mathlib.Numerals.{add-one}
use native.Mathlib.Omega.{arith}
use mathlib.Core.Bool.{true, false}
use mathlib.Core.List.{◌∷◌}
use mathlib.Core.Path.{◌≡◌, refl, sym, ap, ◌∙◌}
use lib.Dec.{T}
use lib.IntN.{ℤ, pos, negsuc, ◌-ℤ◌, nat_abs}
use lib.ListN.{length}
use lib.Signed.{mag, lt_z, non_neg}
use mir.Facts.{to_z-of_z}
use mir.Syntax.{w64}
use mir.Val.{Fits, SFits, to_z, of_z}
use borrow.Author.Tests.{ltb-true, le-ltb}
use Rattle.basics.proofs.Cases.{never}
use Rattle.writing.specs.Digits.{digits_of, signed_of}
use Rattle.writing.proofs.Digits.{digits_most, digits_most_signed}

less_of : (z : ℤ) → lt_z z (pos 0) ≡ true → negsuc 0 -ℤ z ≡ pos (mag z)
less_of (pos n) e = let l = ltb-true n 0 e in absurd (omega arith)
less_of (negsuc n) e = rw (le-ltb (suc n) 1 (omega arith)) (ap pos (omega arith))

text_below : (z : ℤ) → lt_z z (pos 0) ≡ true → signed_of z ≡ 45 ∷ digits_of (mag z + 1)
unfolding signed_of
text_below (pos n) e = let l = ltb-true n 0 e in absurd (omega arith)
text_below (negsuc n) e = ap (λ (m : ℕ). 45 ∷ digits_of m) (sym (add-one n))

text_above : (z : ℤ) → lt_z z (pos 0) ≡ false → signed_of z ≡ digits_of (nat_abs z)
unfolding signed_of
text_above (pos n) e = refl
text_above (negsuc n) e = absurd (never (sym e))

above : (z : ℤ) → lt_z z (pos 0) ≡ false → T (non_neg z) × (nat_abs z ≡ mag z)
above (pos n) e = (tt, refl)
above (negsuc n) e = absurd (never (sym e))

-- a number as it is read from its bits
abbrev read : ℤ → ℤ
read z = to_z w64 (of_z w64 z)

-- what the machine computes for a number below zero: -1 minus the number, and then one more
abbrev less : ℤ → ℤ
less z = negsuc 0 -ℤ read z

abbrev size : ℤ → ℕ
size z = nat_abs (read (less z)) + 1

module _ (z : ℤ) (fits : SFits w64 z) where
  read_is : read z ≡ z
  read_is = to_z-of_z fits

  module _ (e : lt_z (read z) (pos 0) ≡ true) where
    less_is : less z ≡ pos (mag z)
    less_is = rw read_is (less_of z (rw read_is at e))

    pub less_fits : SFits w64 (less z)
    less_fits = rw less_is (record { sfits = fits.sfits })

    back : read (less z) ≡ pos (mag z)
    back = to_z-of_z less_fits ∙ less_is

    pub less_above : T (non_neg (read (less z))) × Fits w64 (nat_abs (read (less z)))
    less_above = rw back (tt, record { fits = omega (arith, fits.sfits) })

    size_is : size z ≡ mag z + 1
    size_is = rw back

    pub size_fits : Fits w64 (size z)
    size_fits = rw size_is (record { fits = omega (arith, fits.sfits) })

    -- its digits leave room for the sign
    pub size_most : length (digits_of (size z)) ≤ 19
    size_most = digits_most_signed (size z) (omega (arith, size_is, fits.sfits))

    pub text_negative : signed_of z ≡ 45 ∷ digits_of (size z)
    text_negative = text_below z (rw read_is at e) ∙ ap (λ (m : ℕ). 45 ∷ digits_of m) (sym size_is)

  module _ (e : lt_z (read z) (pos 0) ≡ false) where
    pub same_fits : T (non_neg (read z)) × Fits w64 (nat_abs (read z))
    same_fits =
        let a = above z (rw read_is at e) in
        rw read_is (a.0, record { fits = omega (arith, a.1, fits.sfits) })

    pub text_same : signed_of z ≡ digits_of (nat_abs (read z))
    text_same = text_above z (rw read_is at e) ∙ ap (λ (m : ℤ). digits_of (nat_abs m)) (sym read_is)

    pub same_most : length (digits_of (nat_abs (read z))) ≤ 20
    same_most = digits_most (nat_abs (read z))
