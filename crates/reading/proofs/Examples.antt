-- Examples: words and lines of a journal, each with what it says.
use Prim.Native.Nat.{◌^◌, ◌-◌}
use mathlib.Core.Path.{◌≡◌, refl}
use mathlib.Core.Bool.{true, false}
use mathlib.Core.List.{[], ◌∷◌}
use Rattle.std.specs.Prelude.{None, Some}
use lib.IntN.{negsuc}
use Rattle.basics.specs.Lists.{up_to}
use Rattle.writing.specs.Digits.{digits_within, digits_of, signed_of}
use Rattle.reading.specs.Numbers.{is_digit, only_digits, value_from, number_of}
use Rattle.reading.specs.Words.{further_words, words_of}
use Rattle.reading.specs.Calls.{same_word, namings, found, naming_of, counted, lists_of, listable, shape_right, with_number, numbers_of}
use Rattle.reading.specs.Lines.{is_comment, call_with, meaning_of}
use Rattle.reading.specs.Lines.Meaning.{call, no_call}
use Rattle.reading.specs.declared.Name.{Name}
use Rattle.reading.specs.declared.Shape.{Shape}

-- 007 is 7
zeros_in_front : number_of (48 ∷ 48 ∷ 55 ∷ []) ≡ Some 7
unfolding is_digit only_digits value_from number_of
zeros_in_front = refl

-- an empty word is no number
empty_word : number_of [] ≡ None
unfolding is_digit only_digits value_from number_of
empty_word = refl

-- 18446744073709551615 is the largest number
largest : number_of (digits_of (2 ^ 64 - 1)) ≡ Some (2 ^ 64 - 1)
unfolding is_digit only_digits value_from number_of digits_within digits_of
largest = refl

-- 18446744073709551616 is no number
too_large : number_of (digits_of (2 ^ 64)) ≡ None
unfolding is_digit only_digits value_from number_of digits_within digits_of
too_large = refl

-- -120 is written with a minus sign
negative : signed_of (negsuc 119) ≡ 45 ∷ 49 ∷ 50 ∷ 48 ∷ []
unfolding digits_within digits_of signed_of
negative = refl

-- `look 31` is a call
a_look : meaning_of (108 ∷ 111 ∷ 111 ∷ 107 ∷ 32 ∷ 51 ∷ 49 ∷ []) ≡ call Name.Look (Shape.Plain 1) (31 ∷ [])
unfolding is_digit only_digits value_from number_of up_to further_words same_word namings found naming_of counted lists_of
    listable shape_right with_number numbers_of is_comment call_with meaning_of
a_look = refl

-- `target 1 2 6 0` is a call
a_target : meaning_of (116 ∷ 97 ∷ 114 ∷ 103 ∷ 101 ∷ 116 ∷ 32 ∷ 49 ∷ 32 ∷ 50 ∷ 32 ∷ 54 ∷ 32 ∷ 48 ∷ [])
    ≡ call Name.Target (Shape.Lent 2) (1 ∷ 2 ∷ 6 ∷ 0 ∷ [])
unfolding is_digit only_digits value_from number_of up_to further_words same_word namings found naming_of counted lists_of
    listable shape_right with_number numbers_of is_comment call_with meaning_of
a_target = refl

-- `rate 7 20` is a call
a_rate : meaning_of (114 ∷ 97 ∷ 116 ∷ 101 ∷ 32 ∷ 55 ∷ 32 ∷ 50 ∷ 48 ∷ []) ≡ call Name.Rate (Shape.Plain 2) (7 ∷ 20 ∷ [])
unfolding is_digit only_digits value_from number_of up_to further_words same_word namings found naming_of counted lists_of
    listable shape_right with_number numbers_of is_comment call_with meaning_of
a_rate = refl

-- `close 9 1 0`, with a price and a list of one word, is a call
a_close : meaning_of (99 ∷ 108 ∷ 111 ∷ 115 ∷ 101 ∷ 32 ∷ 57 ∷ 32 ∷ 49 ∷ 32 ∷ 48 ∷ []) ≡ call Name.Close (Shape.Lent 1) (9 ∷ 1 ∷ 0 ∷ [])
unfolding is_digit only_digits value_from number_of up_to further_words same_word namings found naming_of counted lists_of
    listable shape_right with_number numbers_of is_comment call_with meaning_of
a_close = refl

-- `close 9 5 1 0`, with a rate after its price, is no call
close_with_rate : meaning_of (99 ∷ 108 ∷ 111 ∷ 115 ∷ 101 ∷ 32 ∷ 57 ∷ 32 ∷ 53 ∷ 32 ∷ 49 ∷ 32 ∷ 48 ∷ []) ≡ no_call
unfolding is_digit only_digits value_from number_of up_to further_words same_word namings found naming_of counted lists_of
    listable shape_right with_number numbers_of is_comment call_with meaning_of
close_with_rate = refl

-- `look` with two spaces before its number is no call
two_spaces : meaning_of (108 ∷ 111 ∷ 111 ∷ 107 ∷ 32 ∷ 32 ∷ 51 ∷ []) ≡ no_call
unfolding is_digit only_digits value_from number_of up_to further_words same_word namings found naming_of counted lists_of
    listable shape_right with_number numbers_of is_comment call_with meaning_of
two_spaces = refl

-- a space at the end makes an empty word
space_behind : words_of (51 ∷ 32 ∷ []) ≡ (51 ∷ []) ∷ [] ∷ []
unfolding up_to further_words words_of
space_behind = refl

-- a line with a space before its # is no call
blank_before : meaning_of (32 ∷ 35 ∷ []) ≡ no_call
unfolding is_digit only_digits value_from number_of up_to further_words same_word namings found naming_of counted lists_of
    listable shape_right with_number numbers_of is_comment call_with meaning_of
blank_before = refl

-- `month 2 5 6 3 9` has two amounts and three places
a_month : shape_right Shape.Amounts (2 ∷ 5 ∷ 6 ∷ 3 ∷ 9 ∷ []) ≡ true
unfolding counted lists_of listable shape_right
a_month = refl

-- `month 0 32 9` has no amounts and 32 places
no_amounts : shape_right Shape.Amounts (0 ∷ 32 ∷ 9 ∷ []) ≡ true
unfolding counted lists_of listable shape_right
no_amounts = refl

-- `month 0 32` is no call, because the value of its places is missing
value_missing : shape_right Shape.Amounts (0 ∷ 32 ∷ []) ≡ false
unfolding counted lists_of listable shape_right
value_missing = refl

-- `open 7 10 1` is no call, because its one closed day is missing
day_missing : shape_right Shape.Days (7 ∷ 10 ∷ 1 ∷ []) ≡ false
unfolding counted lists_of listable shape_right
day_missing = refl

-- `close 1 4097 0` is no call, because its list is too long
list_too_long : shape_right (Shape.Lent 1) (1 ∷ 4_097 ∷ 0 ∷ []) ≡ false
unfolding counted lists_of listable shape_right
list_too_long = refl
