-- How a line is split into words.
use Rattle.std.proofs.Common.{◌≡◌, ℕ, suc, ◌+◌, ◌-◌, ◌≤◌, ◌<◌, Bool, true, false, cond, List, [], ◌∷◌, eqb, ltb, length, get_or, take, drop, subst, refl, sym, ap, ◌∙◌, arith}
use native.Mathlib.Nat.{suc-add}
use Rattle.std.specs.Prelude.{Option, Some, None, unwrap_or}
use lib.ListN.{drop_of_length-le, length-drop}
use lib.Seq.{take_all}
use borrow.Author.Tests.{ltb-false}
use Rattle.std.specs.List.{slice_split, onto_first, position_or_len}
use Rattle.std.proofs.lemmas.List.Recursion.{is_position_or_len}
use Rattle.basics.specs.Choice.{pick}
use Rattle.basics.specs.Lists.{up_to}
use Rattle.basics.proofs.Fronts.{drop_more, up_most, up_taken}
use Rattle.writing.specs.Words.{space}
use Rattle.reading.specs.Words.{first_word, further_words, words_of}

-- a line that is one word has no further words
pub further_none : (bs : List ℕ) → length (first_word bs) ≡ length bs → further_words bs ≡ []
unfolding up_to further_words
further_none [] h = refl
further_none (b ∷ bs) h = by (eqb b space) h (further_none bs)
  where
    by : (t : Bool) → length (pick t [] (b ∷ first_word bs)) ≡ suc (length bs)
        → (length (first_word bs) ≡ length bs → further_words bs ≡ [])
        → pick t (first_word bs ∷ further_words bs) (further_words bs) ≡ []
    by true e rest = absurd (omega arith)
    by false e rest = rest (omega arith)

-- the further words of a line are the words after its first space
pub further_some : (bs : List ℕ) → (length (first_word bs) ≡ length bs → ⊥)
    → further_words bs ≡ words_of (drop (length (first_word bs) + 1) bs)
unfolding up_to further_words words_of
further_some [] h = absurd (h refl)
further_some (b ∷ bs) h = by (eqb b space) h (further_some bs)
  where
    by : (t : Bool) → (length (pick t [] (b ∷ first_word bs)) ≡ suc (length bs) → ⊥)
        → ((length (first_word bs) ≡ length bs → ⊥) → further_words bs ≡ words_of (drop (length (first_word bs) + 1) bs))
        → pick t (first_word bs ∷ further_words bs) (further_words bs)
        ≡ words_of (drop (length (pick t [] (b ∷ first_word bs)) + 1) (b ∷ bs))
    by true e rest = refl
    by false e rest =
        rest (λ z. e (omega arith))
        ∙ ap (λ (n : ℕ). words_of (drop n (b ∷ bs))) (sym (suc-add (length (first_word bs)) 1))

-- a line from a place to its end
pub whole_tail : (line : List ℕ) (at : ℕ) → take (length line - at) (drop at line) ≡ drop at line
whole_tail line at = take_all (length line - at) (drop at line) (omega (arith, length-drop at line))

-- the words of a line are its parts between spaces
pub split_words : (bs : List ℕ) → slice_split (λ b. eqb b space) bs ≡ words_of bs
unfolding up_to further_words words_of
split_words [] = refl
split_words (b ∷ bs) = rw (split_words bs) (by (eqb b space))
  where
    by : (t : Bool) → cond t ([] ∷ words_of bs) (onto_first b (words_of bs))
        ≡ pick t [] (b ∷ up_to space bs) ∷ pick t (up_to space bs ∷ further_words bs) (further_words bs)
    by true = refl
    by false = refl

-- a part between spaces is a word, and the words after it are left
pub next_word : (line : List ℕ) (n : ℕ) (w : List ℕ)
    → (n < length (slice_split (λ b. eqb b space) line)) × (w ≡ get_or (slice_split (λ b. eqb b space) line) n w)
    → drop n (words_of line) ≡ w ∷ drop (n + 1) (words_of line)
next_word line n w t =
    let parts = slice_split (λ b. eqb b space) line in
    let P : List (List ℕ) → Type 0 = λ ws. drop n ws ≡ w ∷ drop (n + 1) ws in
    subst P (split_words line) (drop_more parts n w t.0 ∙ ap (λ v. v ∷ drop (n + 1) parts) (sym t.1))

-- no word is left after as many as there are parts
pub last_word : (line : List ℕ) (n : ℕ) → n ≡ length (slice_split (λ b. eqb b space) line) → drop n (words_of line) ≡ []
last_word line n e = drop_of_length-le (words_of line) (omega (arith, e, ap length (split_words line)))

-- the first word ends at the first space, or at the end of the line
pub word_ends : (bs : List ℕ) → length (first_word bs) ≡ position_or_len (λ b. eqb b space) bs
unfolding up_to
word_ends = is_position_or_len (λ bs. length (first_word bs)) (λ b. eqb b space) refl (λ b bs. by (eqb b space) b bs)
  where
    by : (t : Bool) (b : ℕ) (bs : List ℕ) → length (pick t [] (b ∷ up_to space bs)) ≡ cond t 0 (1 + length (up_to space bs))
    by true b bs = refl
    by false b bs = omega arith

module _ (line : List ℕ) (end : ℕ) (ends : end ≡ length (first_word line)) where
  pub word_taken : take end line ≡ first_word line
  word_taken = rw ends (up_taken space line)

  pub word_length : end ≡ length (take end line)
  word_length = ends ∙ ap length (sym word_taken)

  -- a word ends within the line
  pub word_within : end ≤ length line
  word_within = omega (arith, up_most space line)

-- the place of the first space, or the length of a line without one, is where the first word ends
pub word_at : (line : List ℕ) (r : Option ℕ)
    → r ≡ cond (ltb (position_or_len (λ b. eqb b space) line) (length line)) (Some (position_or_len (λ b. eqb b space) line)) None
    → unwrap_or r (length line) ≡ length (first_word line)
word_at line r e = rw e (by (ltb (position_or_len (λ b. eqb b space) line) (length line)) refl)
  where
    by : (t : Bool) → ltb (position_or_len (λ b. eqb b space) line) (length line) ≡ t
        → unwrap_or (cond t (Some (position_or_len (λ b. eqb b space) line)) None) (length line) ≡ length (first_word line)
    by true f = sym (word_ends line)
    by false f =
        let far = ltb-false (position_or_len (λ b. eqb b space) line) (length line) f in
        omega (arith, word_ends line, word_within line (length (first_word line)) refl)
