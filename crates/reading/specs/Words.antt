-- The words of a line, which are separated by single spaces.
use Rattle.std.specs.Prelude.{ℕ, List, [], ◌∷◌, eqb}
use Rattle.basics.specs.Choice.{pick}
use Rattle.basics.specs.Lists.{up_to}
use Rattle.writing.specs.Words.{space}

-- the bytes up to the first space
abbrev pub first_word : List ℕ → List ℕ
first_word bs = up_to space bs

-- the words after the first space; there are none if there is no space
unfoldable pub further_words : List ℕ → List (List ℕ)
further_words [] = []
further_words (b ∷ bs) = pick (eqb b space) (first_word bs ∷ further_words bs) (further_words bs)

-- The words of a line. There is exactly one space between two words. So a space at either end, or a second space, makes
-- an empty word, which is neither a name nor a number.
unfoldable pub words_of : List ℕ → List (List ℕ)
words_of bs = first_word bs ∷ further_words bs
