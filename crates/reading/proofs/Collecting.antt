-- The loop that reads the numbers of a line, one word after another.
use Rattle.std.proofs.Common.{◌≡◌, ℕ, ◌+◌, ◌≤◌, ◌<◌, List, [], ◌∷◌, ◌++◌, length, set, drop, refl, sym, ap, ◌∙◌, arith, zero-add, length-append}
use Rattle.std.specs.Prelude.{Option, None, Some}
use mathlib.Core.List.{append-nil}
use lib.Seq.{sets, length-sets, append_snoc}
use borrow.Author.Tests.{le-leb, lt-leb}
use Rattle.basics.proofs.Stores.{sets_append, sets_past}
use Rattle.reading.specs.Numbers.{number_of}
use Rattle.reading.specs.Calls.{with_number, numbers_of}
use Rattle.reading.specs.Lines.{if_number, numbers_ahead}
use Rattle.reading.specs.Found.{few_of}

-- the numbers xs and then others, if there are others
pub behind : List ℕ → Option (List ℕ) → Option (List ℕ)
behind xs None = None
behind xs (Some ns) = Some (xs ++ ns)

behind_nothing : (o : Option (List ℕ)) → o ≡ behind [] o
unfolding behind
behind_nothing None = refl
behind_nothing (Some ns) = refl

behind_one : (xs : List ℕ) (n : ℕ) (o : Option (List ℕ)) → behind xs (with_number (Some n) o) ≡ behind (xs ++ n ∷ []) o
unfolding behind with_number
behind_one xs n None = refl
behind_one xs n (Some ns) = ap Some (sym (append_snoc xs n ns))

-- The first words are numbers, and these stand in the first places of the buffer. With the numbers of the other words
-- they are the numbers of all words.
pub record Collected (words : List (List ℕ)) (places numbers : List ℕ) (count : ℕ) : Type 0 where
  pub so_far : List ℕ
  pub filled : count ≡ length so_far
  pub room : count ≤ length places
  pub stand : numbers ≡ sets places 0 so_far
  pub all : numbers_of words ≡ behind so_far (numbers_of (drop count words))
  pub front : numbers_ahead words ≡ so_far ++ numbers_ahead (drop count words)

-- this holds before the first number is read
pub collected_none : (words : List (List ℕ)) (places : List ℕ) → Collected words places places 0
collected_none words places = record {
  so_far = [];
  filled = refl;
  room = omega arith;
  stand = refl;
  all = behind_nothing (numbers_of words);
  front = refl;
}

-- what the contract of `read_numbers` says about its answer and about the buffer
abbrev Outcome : List (List ℕ) → List ℕ → List ℕ → Option ℕ → Type 0
Outcome words places after r = (r ≡ few_of (length places) (numbers_of words)) × (after ≡ sets places 0 (numbers_ahead words))

few_all : (places : ℕ) (ns : List ℕ) → length ns ≤ places → Some (length ns) ≡ few_of places (Some ns)
unfolding few_of
few_all places ns h = rw (le-leb (length ns) places h)

few_not : (places : ℕ) (ns : List ℕ) → places < length ns → None ≡ few_of places (Some ns)
unfolding few_of
few_not places ns h = rw (lt-leb (length ns) places h)

few_none : (places : ℕ) → None ≡ few_of places None
unfolding few_of
few_none places = refl

more_than : (places : ℕ) (xs : List ℕ) (o : Option (List ℕ)) (n : Option ℕ) → places ≤ length xs
    → None ≡ few_of places (behind xs (with_number n o))
unfolding behind with_number
more_than places xs o None h = few_none places
more_than places xs None (Some n) h = few_none places
more_than places xs (Some ns) (Some n) h =
    few_not places (xs ++ n ∷ ns) (omega (arith, length-append xs (n ∷ ns)))

module _ (words : List (List ℕ)) (places numbers : List ℕ) (count : ℕ) (c : Collected words places numbers count) where
  -- the contract holds after the last word
  pub collected_last : drop count words ≡ [] → Outcome words places numbers (Some count)
  unfolding numbers_of numbers_ahead behind
  collected_last e =
      let all : numbers_of words ≡ Some c.so_far = c.all ∙ rw (e, append-nil c.so_far) in
      let front : numbers_ahead words ≡ c.so_far = c.front ∙ rw e (append-nil c.so_far) in
      (rw (all, c.filled) (few_all (length places) c.so_far (omega (arith, c.filled, c.room))), rw front c.stand)

  module _ (w : List ℕ) (next : drop count words ≡ w ∷ drop (count + 1) words) where
    -- the contract holds if a word is no number
    pub collected_fails : None ≡ number_of w → Outcome words places numbers None
    unfolding numbers_of with_number numbers_ahead if_number behind
    collected_fails e =
        let all : numbers_of words ≡ None = c.all ∙ rw (next, ← e) in
        let front : numbers_ahead words ≡ c.so_far = c.front ∙ rw (next, ← e) (append-nil c.so_far) in
        (rw all (few_none (length places)), rw front c.stand)

    -- the contract holds if there is no place for another number
    pub collected_full : length places ≤ count → Outcome words places numbers None
    unfolding numbers_of
    collected_full h = (
      more_than (length places) c.so_far (numbers_of (drop (count + 1) words)) (number_of w) (omega (arith, c.filled))
          ∙ ap (few_of (length places)) (sym (c.all ∙ rw next)),
      c.stand
          ∙ sym (ap (sets places 0) c.front
          ∙ sets_append places 0 c.so_far (numbers_ahead (drop count words))
          ∙ sets_past (sets places 0 c.so_far) (0 + length c.so_far) (numbers_ahead (drop count words))
          (omega (arith, c.filled, length-sets places 0 c.so_far))),
    )

    -- the loop goes on if a word is a number and has a place
    pub collected_more : (value : ℕ) → Some value ≡ number_of w → count < length places
        → Collected words places (set numbers count value) (count + 1)
    unfolding numbers_of numbers_ahead if_number
    collected_more value e h = record {
      so_far = c.so_far ++ value ∷ [];
      filled = omega (arith, c.filled, length-append c.so_far (value ∷ []));
      room = omega arith;
      stand = ap (λ (l : List ℕ). set l count value) c.stand
          ∙ ap (λ (n : ℕ). set (sets places 0 c.so_far) n value) (c.filled ∙ sym (zero-add (length c.so_far)))
          ∙ sym (sets_append places 0 c.so_far (value ∷ []));
      all = c.all ∙ rw (next, ← e) (behind_one c.so_far value (numbers_of (drop (count + 1) words)));
      front = c.front ∙ rw (next, ← e) (sym (append_snoc c.so_far value (numbers_ahead (drop (count + 1) words))));
    }
