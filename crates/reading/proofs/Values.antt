-- The number that a word is: the value of its digits, if that fits 64 bits.
use Prim.Native.Nat.{ℕ, ◌+◌, ◌-◌, ◌*◌, ◌^◌, ◌<◌}
use mathlib.Core.Path.{◌≡◌, refl}
use mathlib.Core.Bool.{true}
use mathlib.Core.List.{List, [], ◌∷◌, ◌++◌}
use Rattle.std.specs.Prelude.{Some}
use lib.ListN.{length}
use borrow.Author.Tests.{lt-ltb}
use Rattle.reading.specs.Numbers.{only_digits, value_from, value_of, number_of}

-- the value of two words in a row is that of the second, read after the value of the first
pub value_append : (v : ℕ) (xs ys : List ℕ) → value_from v (xs ++ ys) ≡ value_from (value_from v xs) ys
unfolding value_from
value_append v [] ys = refl
value_append v (x ∷ xs) ys = value_append (v * 10 + (x - 48)) xs ys

-- a word of digits is the number that the digits make
pub number_value : (w : List ℕ) → 0 < length w → only_digits w ≡ true → value_of w < 2 ^ 64 → number_of w ≡ Some (value_of w)
unfolding number_of
number_value w h e l = rw (lt-ltb 0 (length w) h, e, lt-ltb (value_of w) (2 ^ 64) l)
