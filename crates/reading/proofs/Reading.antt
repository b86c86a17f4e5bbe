-- The loop that reads a number, one digit after another.
use Rattle.std.proofs.Common.{◌≡◌, ℕ, ◌+◌, ◌-◌, ◌*◌, ◌^◌, ◌≤◌, ◌<◌, Bool, true, false, ◌&&◌, List, [], ◌∷◌, ltb, length, get_or, drop, refl, sym, ap, ◌∙◌, arith}
use Rattle.std.specs.Prelude.{Option, None, Some}
use lib.ListN.{drop_of_length-le}
use borrow.Author.Tests.{lt-ltb, le-ltb}
use Rattle.basics.specs.Choice.{pick}
use Rattle.basics.proofs.Fronts.{drop_more}
use Rattle.reading.specs.Numbers.{is_digit, only_digits, value_from, number_of}

-- the number that digits with the value v make together with the digits that follow them
pub read_on : ℕ → List ℕ → Option ℕ
read_on v w = pick (only_digits w && ltb (value_from v w) (2 ^ 64)) (Some (value_from v w)) None

value_least : (v : ℕ) (w : List ℕ) → v ≤ value_from v w
unfolding value_from
value_least v [] = omega arith
value_least v (b ∷ bs) = omega (arith, value_least (v * 10 + (b - 48)) bs)

on_end : (v : ℕ) → v < 2 ^ 64 → read_on v [] ≡ Some v
unfolding read_on only_digits value_from
on_end v h = rw (lt-ltb v (2 ^ 64) h)

on_digit : (v b : ℕ) (bs : List ℕ) → is_digit b ≡ true → read_on v (b ∷ bs) ≡ read_on (v * 10 + (b - 48)) bs
unfolding read_on only_digits value_from
on_digit v b bs e = rw e

on_other : (v b : ℕ) (bs : List ℕ) → is_digit b ≡ false → read_on v (b ∷ bs) ≡ None
unfolding read_on only_digits value_from
on_other v b bs e = rw e

never_both : (t u : Bool) → u ≡ false → (t && u) ≡ false
never_both true u e = e
never_both false u e = refl

on_large : (v b : ℕ) (bs : List ℕ) → 2 ^ 64 ≤ v * 10 + (b - 48) → read_on v (b ∷ bs) ≡ None
unfolding read_on value_from
on_large v b bs h =
    let large : 2 ^ 64 ≤ value_from (v * 10 + (b - 48)) bs = omega (arith, value_least (v * 10 + (b - 48)) bs) in
    let over = le-ltb (value_from (v * 10 + (b - 48)) bs) (2 ^ 64) large in
    rw (never_both (only_digits (b ∷ bs)) (ltb (value_from (v * 10 + (b - 48)) bs) (2 ^ 64)) over)

number_on : (w : List ℕ) → number_of w ≡ pick (ltb 0 (length w)) (read_on 0 w) None
unfolding number_of read_on
number_on w = by (ltb 0 (length w))
  where
    by : (t : Bool) → pick (t && (only_digits w && ltb (value_from 0 w) (2 ^ 64))) (Some (value_from 0 w)) None
        ≡ pick t (pick (only_digits w && ltb (value_from 0 w) (2 ^ 64)) (Some (value_from 0 w)) None) None
    by true = refl
    by false = refl

no_number : (t : Bool) (o : Option ℕ) → o ≡ None → None ≡ pick t o None
no_number true o e = sym e
no_number false o e = refl

-- an empty word is no number
pub read_empty : (w : List ℕ) → length w ≡ 0 → None ≡ number_of w
read_empty w e = rw (number_on w, e)

digit_between : (b : ℕ) → 48 ≤ b → b ≤ 57 → is_digit b ≡ true
unfolding is_digit
digit_between b l m = rw (lt-ltb 47 b (omega arith), lt-ltb b 58 (omega arith))

digit_below : (b : ℕ) → b < 48 → is_digit b ≡ false
unfolding is_digit
digit_below b h = rw (le-ltb 47 b (omega arith))

digit_above : (b : ℕ) → 57 < b → is_digit b ≡ false
unfolding is_digit
digit_above b h = rw (lt-ltb 47 b (omega arith), le-ltb b 58 (omega arith))

-- A word is read up to a place. The value so far, with what is left of the word, gives the same number as the whole word.
pub record Read (word : List ℕ) (value at : ℕ) : Type 0 where
  pub small : value < 2 ^ 64
  pub gives : read_on 0 word ≡ read_on value (drop at word)

-- this holds before the first byte is read
pub read_begins : (word : List ℕ) → Read word 0 0
read_begins word = record { small = omega arith; gives = refl }

module _ (word : List ℕ) (value at : ℕ) (r : Read word value at) where
  -- at the end of the word the value is its number
  pub read_ends : 0 < length word → length word ≤ at → Some value ≡ number_of word
  read_ends some e =
      rw (number_on word, lt-ltb 0 (length word) some)
      (sym (r.gives ∙ ap (read_on value) (drop_of_length-le word e) ∙ on_end value r.small))

  fails : read_on value (drop at word) ≡ None → None ≡ number_of word
  fails e = rw (number_on word) (no_number (ltb 0 (length word)) (read_on 0 word) (r.gives ∙ e))

  module _ (h : at < length word) where
    here : drop at word ≡ get_or word at 0 ∷ drop (at + 1) word
    here = drop_more word at 0 h

    -- if a byte is no digit, the word is no number
    pub read_below : get_or word at 0 < 48 → None ≡ number_of word
    read_below l = fails (ap (read_on value) here ∙ on_other value _ _ (digit_below (get_or word at 0) l))

    pub read_above : 57 < get_or word at 0 → None ≡ number_of word
    read_above l = fails (ap (read_on value) here ∙ on_other value _ _ (digit_above (get_or word at 0) l))

    -- if the value does not fit 64 bits, the word is no number
    pub read_large : 2 ^ 64 ≤ value * 10 + (get_or word at 0 - 48) → None ≡ number_of word
    read_large l = fails (ap (read_on value) here ∙ on_large value (get_or word at 0) (drop (at + 1) word) l)

    -- the loop goes on if the byte is a digit and the value fits
    pub read_goes_on : 48 ≤ get_or word at 0 → get_or word at 0 ≤ 57 → value * 10 + (get_or word at 0 - 48) < 2 ^ 64
        → Read word (value * 10 + (get_or word at 0 - 48)) (at + 1)
    read_goes_on l m s = record {
      small = s;
      gives = r.gives
          ∙ ap (read_on value) here
          ∙ on_digit value _ _ (digit_between (get_or word at 0) l m);
    }
