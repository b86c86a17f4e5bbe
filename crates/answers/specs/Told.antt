-- The answers to the lines of a journal, each in its form (docs/JOURNAL.md, Lines out).
use Rattle.std.specs.Prelude.{ℕ, List, ℤ, length, take}
use Rattle.basics.specs.Lists.{padded}
use Rattle.answers.specs.declared.Numbers.{Numbers}
use Rattle.answers.specs.declared.Answer.{Answer}
use Rattle.answers.specs.declared.Answer.TheVariants.{Nothing, NoCall, Shown, Balance, Closed, Words}

-- the most numbers that an answer shows: those of a Status
abbrev pub most_shown : ℕ
most_shown = 7

-- numbers in the first of their places, of which the others hold 0
abbrev pub numbers_of : List ℕ → Numbers
numbers_of shown = record { places = padded most_shown 0 shown; count = length shown }

-- the numbers that are shown
abbrev pub listed : Numbers → List ℕ
listed n = take n.count n.places

-- no answer, as to a comment
unfoldable pub nothing : Answer
nothing = Nothing

-- the answer to a line that is no call
unfoldable pub no_call : Answer
no_call = NoCall

-- an answer of numbers: an answer number and results
unfoldable pub numbers_told : List ℕ → Answer
numbers_told shown = Shown (numbers_of shown)

-- the answer to an Account: an answer number and signed cents
unfoldable pub balance_told : ℕ → ℤ → Answer
balance_told answer cents = Balance answer cents

-- the answer to a Close or an Again: an answer number, how many lines there are, how many words were lent, and the
-- value with which they were filled
unfoldable pub closed_told : ℕ → ℕ → ℕ → ℕ → Answer
closed_told answer lines lent fill = Closed (record { answer = answer; lines = lines; lent = lent; fill = fill })

-- the answer to a Month or a Target: an answer number and results, and how many words were lent
unfoldable pub words_told : List ℕ → ℕ → Answer
words_told shown lent = Words (numbers_of shown) lent
