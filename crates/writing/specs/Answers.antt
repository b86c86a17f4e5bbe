-- The text of answers: numbers on a line, labels, and line feeds (docs/JOURNAL.md, Lines out).
use Rattle.std.specs.Prelude.{ℕ, ◌+◌, ◌≡◌, List, [], ◌∷◌, ◌++◌, map, length}
use Rattle.std.proofs.lemmas.List.Edits.{sets}
use Rattle.writing.specs.Digits.{digits_of}
use Rattle.writing.specs.Words.{joined}

-- Bytes were written at a place of the output. They are there, every other byte is as it was, and the next place is the
-- one after them.
pub record Wrote (bytes out : List ℕ) (at : ℕ) (after : List ℕ) (next : ℕ) : Type 0 where
  pub stands : after ≡ sets out at bytes
  pub place : next ≡ at + length bytes

-- a line feed
abbrev pub line_feed : ℕ
line_feed = 10

-- the text of numbers, with one space between two
unfoldable pub text_of : List ℕ → List ℕ
text_of ns = joined (map digits_of ns)

-- the text of an answer: its numbers, and a line feed
unfoldable pub answer_of : List ℕ → List ℕ
answer_of ns = text_of ns ++ line_feed ∷ []

-- a label, a number and a line feed
unfoldable pub labelled : List ℕ → ℕ → List ℕ
labelled label n = label ++ digits_of n ++ line_feed ∷ []

-- the answer to a line that is no call: `? line N` (docs/JOURNAL.md, What is not a call)
unfoldable pub no_call_of : ℕ → List ℕ
no_call_of n = labelled (63 ∷ 32 ∷ 108 ∷ 105 ∷ 110 ∷ 101 ∷ 32 ∷ []) n

-- the last line of the output, once all N lines of a text were played and answered: `end N`
unfoldable pub end_of : ℕ → List ℕ
end_of n = labelled (101 ∷ 110 ∷ 100 ∷ 32 ∷ []) n
