-- The digits of a number, with and without a sign.
use Rattle.std.specs.Prelude.{ℕ, zero, suc, ◌+◌, ◌/◌, ◌%◌, List, [], ◌∷◌, ◌++◌, ltb, ℤ, pos, negsuc}
use Rattle.basics.specs.Choice.{pick}

-- the byte of a digit: ASCII has 0 at 48 and 9 at 57
abbrev pub digit : ℕ → ℕ
digit d = 48 + d

-- The digits of a number that has at most k digits, with no zero in front. A number below ten has one digit. Any other
-- number has the digits of its tenth part and then its last digit.
unfoldable pub digits_within : ℕ → ℕ → List ℕ
digits_within zero n = []
digits_within (suc k) n = pick (ltb n 10) (digit n ∷ []) (digits_within k (n / 10) ++ digit (n % 10) ∷ [])

-- D1, Days and units: the digits of a number in base ten; a number of 64 bits has at most 20
unfoldable pub digits_of : ℕ → List ℕ
digits_of n = digits_within 20 n

-- the digits of a number, with a minus sign (45) in front if it is negative
unfoldable pub signed_of : ℤ → List ℕ
signed_of (pos n) = digits_of n
signed_of (negsuc n) = 45 ∷ digits_of (suc n)
