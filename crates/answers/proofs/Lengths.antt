-- How many bytes the parts of an answer have at most.
use Rattle.std.proofs.Common.{◌≡◌, ℕ, zero, suc, ◌+◌, ◌*◌, ◌≤◌, List, ◌++◌, ◌∷◌, [], length, take, drop, arith, length-append, length-take}
use Rattle.std.proofs.Common.{add-one}
use Rattle.std.specs.Prelude.{ℤ}
use Rattle.writing.proofs.Digits.{digits_most, signed_most}
use Rattle.writing.proofs.Writing.{spaced_most, text_most, line_most, labelled_most, no_call_most}
use Rattle.answers.specs.declared.Reported.{Reported}
use Rattle.answers.specs.declared.Answer.{Answer}
use Rattle.answers.specs.declared.Answer.TheVariants.{Nothing, NoCall, Shown, Balance, Closed, Words}
use Rattle.answers.specs.Told.{listed}
use Rattle.answers.specs.Text.{most_answer, WithinLent, Tellable, balance_text, six_text, lines_text, kept_of, kept_text, closed_text, words_text, answer_text}

-- an answer number and signed cents
pub balance_most : (answer : ℕ) (cents : ℤ) → length (balance_text answer cents) ≤ 43
unfolding balance_text
balance_most answer cents = simp length-append (omega (arith, digits_most answer, signed_most cents))

-- a line of a Close
pub six_most : (ws : List ℕ) → length (six_text (take 6 ws)) ≤ 129
unfolding six_text
six_most ws = omega (arith, line_most (take 6 ws), length-take 6 ws)

-- the text of k + 1 lines is that of the first k, and one more line
pub lines_more : (words : List ℕ) (k : ℕ)
    → lines_text words (k + 1) ≡ lines_text words k ++ six_text (take 6 (drop (6 * k) words))
unfolding lines_text
lines_more words k = rw add-one

-- the first k lines of a Close
pub lines_most : (words : List ℕ) (k : ℕ) → length (lines_text words k) ≤ 129 * k
unfolding lines_text
lines_most words zero = omega arith
lines_most words (suc k) =
    omega (
      arith,
      length-append (lines_text words k) (six_text (take 6 (drop (6 * k) words))),
      lines_most words k,
      six_most (drop (6 * k) words),
    )

-- the line that says how many words are kept
pub kept_most : (n : ℕ) → length (kept_text n) ≤ 28
unfolding kept_text
kept_most n = labelled_most _ n

-- numbers and the words that were lent: at most 21 bytes for each
pub words_most : (shown words : List ℕ) → length (words_text shown words) ≤ 21 * length shown + 21 * length words + 1
unfolding words_text
words_most shown words = simp length-append (omega (arith, text_most shown, spaced_most words))

-- the answer to a Close or an Again fits its room
closed_most : (r : Reported) (words : List ℕ) → WithinLent r words → length (closed_text r words) ≤ most_answer
unfolding closed_text
closed_most r words t =
    simp length-append
    (omega (
      arith,
      t.lines,
      t.lent.few,
      line_most (r.answer ∷ r.lines ∷ []),
      lines_most words r.lines,
      kept_most (kept_of r.fill (drop (6 * r.lines) (take r.lent words))),
    ))

-- every answer that can be written fits its room
pub answer_most : (a : Answer) (line : ℕ) (words : List ℕ) → Tellable a words → length (answer_text a line words) ≤ most_answer
unfolding answer_text
answer_most Nothing line words t = omega arith
answer_most NoCall line words t = omega (arith, no_call_most line)
answer_most (Shown numbers) line words t =
    omega (arith, line_most (listed numbers), length-take numbers.count numbers.places, t)
answer_most (Balance answer cents) line words t = omega (arith, balance_most answer cents)
answer_most (Closed r) line words t = closed_most r words t
answer_most (Words numbers lent) line words t =
    omega (
      arith,
      words_most (listed numbers) (take lent words),
      length-take numbers.count numbers.places,
      length-take lent words,
      t.0,
      t.1.few,
    )
