-- Which answers can be written, and what the text of an answer of numbers is.
use Rattle.std.proofs.Common.{◌≡◌, ℕ, ◌-◌, ◌*◌, ◌≤◌, List, length, replicate, ap}
use Rattle.std.specs.Prelude.{ℤ}
use Rattle.std.proofs.Math.Seq.{take-append_seam}
use Rattle.writing.specs.Answers.{answer_of}
use Rattle.answers.specs.Text.{most_lent, Tellable, answer_text}
use Rattle.answers.specs.Told.{most_shown, nothing, no_call, numbers_told, balance_told, closed_told, words_told}

-- the answer to a comment can be written
pub nothing_tells : (words : List ℕ) → Tellable nothing words
unfolding nothing
nothing_tells words = tt

-- so can the answer to a line that is no call
pub no_call_tells : (words : List ℕ) → Tellable no_call words
unfolding no_call
no_call_tells words = tt

-- so can an answer number with results
pub numbers_tells : (shown words : List ℕ) → length shown ≤ most_shown → Tellable (numbers_told shown) words
unfolding numbers_told
numbers_tells shown words h = h

-- so can an answer number with signed cents
pub balance_tells : (answer : ℕ) (cents : ℤ) (words : List ℕ) → Tellable (balance_told answer cents) words
unfolding balance_told
balance_tells answer cents words = tt

-- so can the answer to a Close or an Again whose lines stand within the words that were lent
pub closed_tells : (answer lines lent fill : ℕ) (words : List ℕ)
    → lent ≤ most_lent → lent ≤ length words → 6 * lines ≤ lent → Tellable (closed_told answer lines lent fill) words
unfolding closed_told
closed_tells answer lines lent fill words m w l = record { lent = record { few = m; within = w }; lines = l }

-- so can numbers with words that were lent
pub words_tells : (shown : List ℕ) (lent : ℕ) (words : List ℕ) → length shown ≤ most_shown → lent ≤ most_lent → lent ≤ length words
    → Tellable (words_told shown lent) words
unfolding words_told
words_tells shown lent words h m w = (h, record { few = m; within = w })

-- the text of an answer number with results has exactly these numbers
pub numbers_shown : (shown words : List ℕ) (line : ℕ) → length shown ≤ most_shown
    → answer_text (numbers_told shown) line words ≡ answer_of shown
unfolding answer_text numbers_told
numbers_shown shown words line h = ap answer_of (take-append_seam shown (replicate (most_shown - length shown) 0))
