-- The names of the calls, and which numbers each has as arguments (docs/JOURNAL.md, Lines in).
use Rattle.std.specs.Prelude.{ℕ, ◌+◌, Bool, true, false, ◌&&◌, List, [], ◌∷◌, eqb, leb, length, get_or}
use Rattle.std.specs.Prelude.{Option, None, Some}
use Rattle.basics.specs.Choice.{pick}
use Rattle.reading.specs.Numbers.{number_of}
use Rattle.reading.specs.declared.Name.{Name}
use Rattle.reading.specs.declared.Shape.{Shape}

-- whether two words are the same
unfoldable pub same_word : List ℕ → List ℕ → Bool
same_word [] [] = true
same_word [] (b ∷ bs) = false
same_word (a ∷ rest) [] = false
same_word (a ∷ rest) (b ∷ bs) = eqb a b && same_word rest bs

-- a call: the word that names it in a journal, its name, and its shape
pub record Naming : Type 0 where
  pub word : List ℕ
  pub name : Name
  pub shape : Shape

-- a call with its word and its shape
abbrev naming : List ℕ → Name → Shape → Naming
naming w n s = record { word = w; name = n; shape = s }

-- every line that is answered with numbers: its word is its name in lower case
abbrev pub namings : List Naming
namings =
    naming (111 ∷ 112 ∷ 101 ∷ 110 ∷ []) Name.Open Shape.Days
    ∷ naming (101 ∷ 110 ∷ 116 ∷ 101 ∷ 114 ∷ []) Name.Enter (Shape.Plain 6)
    ∷ naming (119 ∷ 105 ∷ 116 ∷ 104 ∷ 100 ∷ 114 ∷ 97 ∷ 119 ∷ []) Name.Withdraw (Shape.Plain 2)
    ∷ naming (99 ∷ 97 ∷ 110 ∷ 99 ∷ 101 ∷ 108 ∷ []) Name.Cancel (Shape.Plain 2)
    ∷ naming (100 ∷ 101 ∷ 108 ∷ 105 ∷ 118 ∷ 101 ∷ 114 ∷ []) Name.Deliver (Shape.Plain 2)
    ∷ naming (111 ∷ 102 ∷ 102 ∷ 101 ∷ 114 ∷ []) Name.Offer (Shape.Plain 4)
    ∷ naming (114 ∷ 97 ∷ 116 ∷ 101 ∷ []) Name.Rate (Shape.Plain 2)
    ∷ naming (99 ∷ 108 ∷ 111 ∷ 115 ∷ 101 ∷ []) Name.Close (Shape.Lent 1)
    ∷ naming (97 ∷ 103 ∷ 97 ∷ 105 ∷ 110 ∷ []) Name.Again (Shape.Lent 0)
    ∷ naming (109 ∷ 111 ∷ 110 ∷ 116 ∷ 104 ∷ []) Name.Month Shape.Amounts
    ∷ naming (115 ∷ 116 ∷ 97 ∷ 116 ∷ 117 ∷ 115 ∷ []) Name.Status (Shape.Plain 1)
    ∷ naming (97 ∷ 99 ∷ 99 ∷ 111 ∷ 117 ∷ 110 ∷ 116 ∷ []) Name.Account (Shape.Plain 1)
    ∷ naming (108 ∷ 111 ∷ 111 ∷ 107 ∷ []) Name.Look (Shape.Plain 1)
    ∷ naming (116 ∷ 97 ∷ 114 ∷ 103 ∷ 101 ∷ 116 ∷ []) Name.Target (Shape.Lent 2)
    ∷ naming (114 ∷ 117 ∷ 108 ∷ 101 ∷ 115 ∷ []) Name.Rules (Shape.Plain 0)
    ∷ []

-- the first entry of a list of namings that has this word
unfoldable pub found : List ℕ → List Naming → Option Naming
found w [] = None
found w (x ∷ xs) = pick (same_word w x.word) (Some x) (found w xs)

-- the call that a word names, if it names one
unfoldable pub naming_of : List ℕ → Option Naming
naming_of w = found w namings

-- the most words of a list: 4,096
abbrev pub most_listed : ℕ
most_listed = 4_096

-- the most numbers of a call: those of an open or a month with the longest list
abbrev pub most_numbers : ℕ
most_numbers = 3 + most_listed

-- How many numbers a call has. Where days follow, the third number says how many. Where amounts follow, the first
-- number says how many. A list that is lent has two numbers, its length and its fill.
unfoldable pub counted : Shape → List ℕ → ℕ
counted (Shape.Plain k) ns = k
counted Shape.Days ns = 3 + get_or ns 2 0
counted (Shape.Lent k) ns = k + 2
counted Shape.Amounts ns = 3 + get_or ns 0 0

-- How long the lists of a call are: the days, the list that is lent, or the amounts and the list that is lent.
unfoldable pub lists_of : Shape → List ℕ → List ℕ
lists_of (Shape.Plain k) ns = []
lists_of Shape.Days ns = get_or ns 2 0 ∷ []
lists_of (Shape.Lent k) ns = get_or ns k 0 ∷ []
lists_of Shape.Amounts ns = get_or ns 0 0 ∷ get_or ns (get_or ns 0 0 + 1) 0 ∷ []

-- whether no list is longer than 4,096 words (docs/JOURNAL.md, What is not a call)
unfoldable pub listable : List ℕ → Bool
listable [] = true
listable (n ∷ ns) = leb n most_listed && listable ns

-- whether a call has neither too few nor too many arguments, and no list that is too long
unfoldable pub shape_right : Shape → List ℕ → Bool
shape_right shape ns = eqb (length ns) (counted shape ns) && listable (lists_of shape ns)

-- a number and then others, if the number is there and all others are too
unfoldable pub with_number : Option ℕ → Option (List ℕ) → Option (List ℕ)
with_number None ns = None
with_number (Some n) None = None
with_number (Some n) (Some ns) = Some (n ∷ ns)

-- the numbers of a list of words, if every word is a number
unfoldable pub numbers_of : List (List ℕ) → Option (List ℕ)
numbers_of [] = Some []
numbers_of (w ∷ ws) = with_number (number_of w) (numbers_of ws)
