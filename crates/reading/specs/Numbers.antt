-- Numbers as text: the value of a word of digits.
use Rattle.std.specs.Prelude.{ℕ, ◌+◌, ◌-◌, ◌*◌, ◌^◌, Bool, true, ◌&&◌, List, [], ◌∷◌, ltb, length}
use Rattle.std.specs.Prelude.{Option, None, Some}
use Rattle.basics.specs.Choice.{pick}

-- whether a byte is a digit
unfoldable pub is_digit : ℕ → Bool
is_digit b = ltb 47 b && ltb b 58

-- whether every byte of a word is a digit
unfoldable pub only_digits : List ℕ → Bool
only_digits [] = true
only_digits (b ∷ bs) = is_digit b && only_digits bs

-- The value of a word whose digits follow others with the value v. Each digit multiplies the value so far by ten and is
-- added to it.
unfoldable pub value_from : ℕ → List ℕ → ℕ
value_from v [] = v
value_from v (b ∷ bs) = value_from (v * 10 + (b - 48)) bs

-- D1, Days and units: the value of a word of digits, in base ten
abbrev pub value_of : List ℕ → ℕ
value_of w = value_from 0 w

-- whether a word is a number: it is one or more digits whose value fits 64 bits, and it may have zeros in front
abbrev pub is_number : List ℕ → Bool
is_number w = ltb 0 (length w) && (only_digits w && ltb (value_of w) (2 ^ 64))

-- the number that a word is, if it is a number
unfoldable pub number_of : List ℕ → Option ℕ
number_of w = pick (is_number w) (Some (value_of w)) None
