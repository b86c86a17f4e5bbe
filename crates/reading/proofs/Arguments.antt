-- What a caller of `read_line` knows about a call: its arguments are the first numbers, and its lists lie within them.
use Prim.Native.Nat.{ℕ, ◌+◌, ◌-◌, ◌≤◌}
use native.Mathlib.Omega.{arith}
use mathlib.Core.Path.{◌≡◌, refl, sym, subst, ap, ◌∙◌}
use mathlib.Core.Bool.{Bool, true, false}
use mathlib.Core.List.{List, [], ◌∷◌}
use Rattle.std.specs.Prelude.{Option, None, Some}
use lib.Dec.{eqb, leb, ltb}
use lib.ListN.{length, get_or, take}
use lib.Seq.{sets, length-sets, get_or-take, length-take-le}
use borrow.Author.Tests.{eqb-true, leb-true, leb-false}
use Rattle.basics.specs.Choice.{pick}
use Rattle.basics.proofs.Cases.{never, and_true}
use Rattle.basics.proofs.Stores.{sets_front}
use Rattle.reading.specs.Words.{first_word, further_words}
use Rattle.reading.specs.Calls.{Naming, most_listed, most_numbers, naming_of, counted, lists_of, listable, shape_right, numbers_of}
use Rattle.reading.specs.Lines.{Meaning, is_comment, most_bytes, call_with, meaning_of, line_of, numbers_ahead, if_named, numbers_read, Understood}
use Rattle.reading.specs.Lines.Meaning.{call, comment, no_call}
use Rattle.reading.specs.declared.Name.{Name}
use Rattle.reading.specs.declared.Shape.{Shape}
use Rattle.reading.specs.declared.Line.{Line}
use Rattle.reading.specs.declared.Line.TheVariants.{Call}
use Rattle.reading.proofs.Shapes.{fixed_by, shape_most}
use Rattle.reading.proofs.Spelling.{named_usable}
use Rattle.reading.proofs.Understanding.{ahead_all}

-- a call has the shape of its name, and its arguments are the numbers that are read
pub meaning_call : (line : List ℕ) (name : Name) (shape : Shape) (ns : List ℕ) → meaning_of line ≡ call name shape ns
    → (shape_right shape ns ≡ true) × (numbers_read line ≡ ns) × (fixed_by shape ≤ 6)
unfolding meaning_of call_with numbers_read if_named
meaning_call line name shape ns e =
    by (is_comment line) (ltb most_bytes (length line)) (naming_of (first_word line)) refl (numbers_of (further_words line)) refl e
  where
    shaped : (x : Naming) (ms : List ℕ) (t : Bool) → shape_right x.shape ms ≡ t → numbers_ahead (further_words line) ≡ ms
        → fixed_by x.shape ≤ 6 → pick t (call x.name x.shape ms) no_call ≡ call name shape ns
        → (shape_right shape ns ≡ true) × (numbers_ahead (further_words line) ≡ ns) × (fixed_by shape ≤ 6)
    shaped x ms true f g few h =
        let a : x.shape ≡ shape = cc in
        let b : ms ≡ ns = cc in
        (cc, cc, subst (λ (s : Shape). fixed_by s ≤ 6) a few)
    shaped x ms false f g few h = absurd (let z : ◌≡◌ {A = ℕ} 0 1 = cc in omega arith)

    by : (t u : Bool) (o : Option Naming) → naming_of (first_word line) ≡ o
        → (p : Option (List ℕ)) → numbers_of (further_words line) ≡ p
        → pick t comment (pick u no_call (call_with o p)) ≡ call name shape ns
        → (shape_right shape ns ≡ true) × (pick t [] (pick u [] (if_named o (numbers_ahead (further_words line)))) ≡ ns)
        × (fixed_by shape ≤ 6)
    by true u o n p f g = absurd (let z : ◌≡◌ {A = ℕ} 0 1 = cc in omega arith)
    by false true o n p f g = absurd (let z : ◌≡◌ {A = ℕ} 0 1 = cc in omega arith)
    by false false None n p f g = absurd (let z : ◌≡◌ {A = ℕ} 0 1 = cc in omega arith)
    by false false (Some x) n None f g = absurd (let z : ◌≡◌ {A = ℕ} 0 1 = cc in omega arith)
    by false false (Some x) n (Some ms) f g =
        shaped x ms (shape_right x.shape ms) refl (ahead_all (further_words line) ms f) (named_usable (first_word line) x n).few g

shape_within : (shape : Shape) (ns : List ℕ) → fixed_by shape ≤ 6 → shape_right shape ns ≡ true → length ns ≤ most_numbers
shape_within shape ns few e = by (leb (length ns) most_numbers) refl
  where
    by : (t : Bool) → leb (length ns) most_numbers ≡ t → length ns ≤ most_numbers
    by true f = leb-true (length ns) most_numbers f
    by false f =
        absurd (never (sym (shape_most shape ns (omega arith) (leb-false (length ns) most_numbers f)) ∙ e))

-- if a line is a call, the first numbers are the arguments that it has, and they have the shape of the call
pub call_arguments : (line places after : List ℕ) (name : Name) (shape : Shape) (count : ℕ) {r : Line}
    → most_numbers ≤ length places → r ≡ Call name shape count → Understood line places after r
    → (meaning_of line ≡ call name shape (take count after)) × (shape_right shape (take count after) ≡ true)
    × (count ≤ length after)
unfolding line_of
call_arguments line places after name shape count {r} room told u = by (meaning_of line) refl (sym told ∙ u.answer)
  where
    by : (m : Meaning) → meaning_of line ≡ m → Call name shape count ≡ line_of m
        → (meaning_of line ≡ call name shape (take count after)) × (shape_right shape (take count after) ≡ true)
        × (count ≤ length after)
    by comment e f = absurd (let z : ◌≡◌ {A = ℕ} 0 1 = cc in omega arith)
    by no_call e f = absurd (let z : ◌≡◌ {A = ℕ} 0 1 = cc in omega arith)
    by (call n s ns) e f =
        let same : n ≡ name = cc in
        let alike : s ≡ shape = cc in
        let size : count ≡ length ns = cc in
        let parts = meaning_call line n s ns e in
        let stands : after ≡ sets places 0 ns = u.numbers ∙ ap (sets places 0) parts.1 in
        let few : length ns ≤ length places = omega (arith, shape_within s ns parts.2 parts.0) in
        let front : take count after ≡ ns =
        ap (take count) stands ∙ ap (λ (k : ℕ). take k (sets places 0 ns)) size ∙ sets_front places ns few in
        let right = parts.0 in
        (cc, cc, omega (arith, ap length stands, length-sets places 0 ns))

listed_one : (n : ℕ) (ns : List ℕ) → listable (n ∷ ns) ≡ true → (n ≤ most_listed) × (listable ns ≡ true)
unfolding listable
listed_one n ns e =
    let both = and_true (leb n most_listed) (listable ns) e in
    (leb-true n most_listed both.0, both.1)

-- what is known about the first numbers if they have the shape of a call
module _ (places : List ℕ) (count : ℕ) (within : count ≤ length places) where
  shaped : (shape : Shape) → shape_right shape (take count places) ≡ true
      → (count ≡ counted shape (take count places)) × (listable (lists_of shape (take count places)) ≡ true)
  unfolding shape_right
  shaped shape right =
      let size = length-take-le count places within in
      let both = and_true (eqb (length (take count places)) (counted shape (take count places)))
      (listable (lists_of shape (take count places))) right in
      (sym size ∙ eqb-true (length (take count places)) (counted shape (take count places)) both.0, both.1)

  -- the third number says how many days follow, and there are at most 4,096
  pub days_listed : shape_right Shape.Days (take count places) ≡ true
      → (count ≡ 3 + get_or places 2 0) × (get_or places 2 0 ≤ most_listed)
  unfolding counted lists_of
  days_listed right =
      let s = shaped Shape.Days right in
      let third : get_or (take count places) 2 0 ≡ get_or places 2 0 = get_or-take count places 2 0 (omega (arith, s.0)) in
      let listed = listed_one (get_or (take count places) 2 0) [] s.1 in
      (omega (arith, s.0), omega (arith, listed.0))

  -- the last number but one says how many words are lent, and there are at most 4,096
  pub lent_listed : (k : ℕ) → shape_right (Shape.Lent k) (take count places) ≡ true
      → (count ≡ k + 2) × (get_or places (count - 2) 0 ≤ most_listed)
  unfolding counted lists_of
  lent_listed k right =
      let s = shaped (Shape.Lent k) right in
      let at : count - 2 ≡ k = omega (arith, s.0) in
      let length_at : get_or (take count places) k 0 ≡ get_or places k 0 = get_or-take count places k 0 (omega (arith, s.0)) in
      let listed = listed_one (get_or (take count places) k 0) [] s.1 in
      (s.0, rw at (omega (arith, listed.0)))

  -- the first number says how many amounts follow, and after these stand the two numbers of the words that are lent
  pub amounts_listed : shape_right Shape.Amounts (take count places) ≡ true
      → (count ≡ 3 + get_or places 0 0) × (get_or places 0 0 ≤ most_listed) × (get_or places (count - 2) 0 ≤ most_listed)
  unfolding counted lists_of
  amounts_listed right =
      let s = shaped Shape.Amounts right in
      let first : get_or (take count places) 0 0 ≡ get_or places 0 0 = get_or-take count places 0 0 (omega (arith, s.0)) in
      let amounts = listed_one (get_or (take count places) 0 0) _ s.1 in
      let at : get_or (take count places) 0 0 + 1 ≡ count - 2 = omega (arith, s.0) in
      let lent = listed_one (get_or (take count places) (get_or (take count places) 0 0 + 1) 0) [] amounts.1 in
      let lent_at : get_or (take count places) (get_or (take count places) 0 0 + 1) 0 ≡ get_or places (count - 2) 0 =
      ap (λ (k : ℕ). get_or (take count places) k 0) at ∙ get_or-take count places (count - 2) 0 (omega (arith, s.0)) in
      (omega (arith, s.0), omega (arith, amounts.0), omega (arith, lent.0))
