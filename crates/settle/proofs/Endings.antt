-- Laws of what is written last: the answer to a torn last line, and the line `end`.
use Rattle.std.proofs.Common.{◌≡◌, ℕ, ◌≤◌, ◌<◌, List, [], ◌∷◌, refl, length, length-append, get_or, take, arith}
use borrow.Author.Tests.{eq-eqb, ne_eqb}
use Rattle.basics.proofs.Cases.{pick_case}
use Rattle.lines.specs.declared.Feed.{Feed}
use Rattle.lines.specs.Input.{lines_of}
use Rattle.reading.specs.Lines.{is_comment}
use Rattle.writing.specs.Answers.{no_call_of, end_of}
use Rattle.writing.proofs.Writing.{no_call_most, end_most}
use Rattle.settle.specs.Ending.{torn_text, over_text}

-- the answer to a torn line has at most 28 bytes
pub torn_most : (n : ℕ) (rest : List ℕ) → length (torn_text n rest) ≤ 28
unfolding torn_text
torn_most n rest =
    pick_case (λ (xs : List ℕ). length xs ≤ 28) (is_comment rest) [] (no_call_of n) (λ e. omega arith) (λ e. no_call_most n)

-- what is written when the text is over has at most 25 bytes more
pub over_most : (f : Feed) (line : List ℕ) → length (over_text f line) ≤ 53
unfolding over_text
over_most f line =
    let torn = torn_text (lines_of f) (take f.held line) in
    omega (arith, length-append torn (end_of (lines_of f)), torn_most (lines_of f) (take f.held line), end_most (lines_of f))

-- if no bytes are left of the text, there is no answer
pub torn_none : (n : ℕ) (bs : List ℕ) → length bs ≡ 0 → torn_text n bs ≡ []
unfolding torn_text is_comment
torn_none n [] e = refl
torn_none n (b ∷ bs) e = absurd (omega arith)

-- a torn line that is a comment has no answer
pub torn_comment : (n : ℕ) (bs : List ℕ) → 0 < length bs → get_or bs 0 0 ≡ 35 → torn_text n bs ≡ []
unfolding torn_text is_comment
torn_comment n [] some e = absurd (omega arith)
torn_comment n (b ∷ bs) some e = rw (eq-eqb b 35 e) refl

-- any other torn line is answered as no call
pub torn_answered : (n : ℕ) (bs : List ℕ) → 0 < length bs → (get_or bs 0 0 ≡ 35 → ⊥) → torn_text n bs ≡ no_call_of n
unfolding torn_text is_comment
torn_answered n [] some e = absurd (omega arith)
torn_answered n (b ∷ bs) some e = rw (ne_eqb b 35 e) refl
