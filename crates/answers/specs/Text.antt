-- How an answer is written (docs/JOURNAL.md, Lines out).
use Rattle.std.specs.Prelude.{ℕ, zero, suc, ◌+◌, ◌*◌, ◌≤◌, List, [], ◌∷◌, ◌++◌, map, eqb, length, take, drop, ℤ}
use Rattle.basics.specs.Choice.{pick}
use Rattle.writing.specs.Digits.{digits_of, signed_of}
use Rattle.writing.specs.Words.{space, spaced}
use Rattle.writing.specs.Answers.{line_feed, text_of, answer_of, labelled, no_call_of}
use Rattle.answers.specs.declared.Reported.{Reported}
use Rattle.answers.specs.declared.Answer.{Answer}
use Rattle.answers.specs.declared.Answer.TheVariants.{Nothing, NoCall, Shown, Balance, Closed, Words}
use Rattle.answers.specs.Told.{most_shown, listed}

-- the most words that are lent to a call: 4,096
abbrev pub most_lent : ℕ
most_lent = 4_096

-- the most bytes of an answer: 22 for each of the most words that are lent, and 100 more
abbrev pub most_answer : ℕ
most_answer = 22 * most_lent + 100

-- words were lent: at most 4,096, and no more than there are
pub record Lent (n : ℕ) (words : List ℕ) : Type 0 where
  pub few : n ≤ most_lent
  pub within : n ≤ length words

-- the lines of a Close or an Again are within the words that were lent
pub record WithinLent (r : Reported) (words : List ℕ) : Type 0 where
  pub lent : Lent r.lent words
  pub lines : 6 * r.lines ≤ r.lent

-- An answer can be written: it shows at most as many numbers as there may be, the words that it shows were lent, and its
-- lines are within these words.
abbrev pub Tellable : Answer → List ℕ → Type 0
Tellable Nothing words = Unit {0}
Tellable NoCall words = Unit {0}
Tellable (Shown numbers) words = numbers.count ≤ most_shown
Tellable (Balance answer cents) words = Unit {0}
Tellable (Closed r) words = WithinLent r words
Tellable (Words numbers lent) words = (numbers.count ≤ most_shown) × Lent lent words

-- the text of the answer to an Account: the answer number, signed cents, and a line feed
unfoldable pub balance_text : ℕ → ℤ → List ℕ
balance_text answer cents = digits_of answer ++ space ∷ signed_of cents ++ line_feed ∷ []

-- the text of a line of a Close or an Again: two spaces, six words, and a line feed
unfoldable pub six_text : List ℕ → List ℕ
six_text six = space ∷ space ∷ answer_of six

-- the text of the first k lines of a Close or an Again
unfoldable pub lines_text : List ℕ → ℕ → List ℕ
lines_text words zero = []
lines_text words (suc k) = lines_text words k ++ six_text (take 6 (drop (6 * k) words))

-- how many words still have the value with which they were filled
unfoldable pub kept_of : ℕ → List ℕ → ℕ
kept_of fill [] = 0
kept_of fill (w ∷ ws) = pick (eqb w fill) 1 0 + kept_of fill ws

-- the text of how many words are kept: two spaces, the word kept, and the number
unfoldable pub kept_text : ℕ → List ℕ
kept_text n = labelled (space ∷ space ∷ 107 ∷ 101 ∷ 112 ∷ 116 ∷ space ∷ []) n

-- the text of the answer to a Close or an Again: answer number and number of lines, the lines, and how many words after
-- them are kept
unfoldable pub closed_text : Reported → List ℕ → List ℕ
closed_text r words =
    answer_of (r.answer ∷ r.lines ∷ [])
    ++ lines_text words r.lines
    ++ kept_text (kept_of r.fill (drop (6 * r.lines) (take r.lent words)))

-- the text of the answer to a Month or a Target: the numbers that are shown, and on the same line the words that were
-- lent
unfoldable pub words_text : List ℕ → List ℕ → List ℕ
words_text shown words = text_of shown ++ spaced (map digits_of words) ++ line_feed ∷ []

-- the text of the answer to the line with this number, given the words as the line left them
unfoldable pub answer_text : Answer → ℕ → List ℕ → List ℕ
answer_text Nothing line words = []
answer_text NoCall line words = no_call_of line
answer_text (Shown numbers) line words = answer_of (listed numbers)
answer_text (Balance answer cents) line words = balance_text answer cents
answer_text (Closed r) line words = closed_text r words
answer_text (Words numbers lent) line words = words_text (listed numbers) (take lent words)
