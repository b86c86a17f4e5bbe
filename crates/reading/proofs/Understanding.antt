-- What a line says, at each place where reading it ends.
use Prim.Native.Nat.{ℕ, ◌+◌, ◌≤◌, ◌<◌}
use native.Mathlib.Omega.{arith}
use mathlib.Core.Path.{◌≡◌, refl, sym, ap, ap₂, ◌∙◌}
use mathlib.Core.Bool.{Bool, true, false}
use mathlib.Core.List.{List, [], ◌∷◌}
use Rattle.std.specs.Prelude.{Option, None, Some, unwrap_or}
use Rattle.std.specs.Bool.{then_some}
use lib.Dec.{leb}
use lib.ListN.{length, get_or, take, drop}
use lib.Seq.{sets, length-sets}
use borrow.Author.Tests.{eq-eqb, ne_eqb, lt-ltb, le-ltb, leb-true, leb-false}
use Rattle.basics.specs.Choice.{pick}
use Rattle.basics.proofs.Stores.{sets_front}
use Rattle.reading.specs.Numbers.{number_of}
use Rattle.reading.specs.Words.{first_word, further_words, words_of}
use Rattle.reading.specs.Calls.{Naming, most_numbers, naming_of, shape_right, with_number, numbers_of}
use Rattle.reading.specs.Lines.{is_comment, most_bytes, call_with, meaning_of, line_of, if_number, numbers_ahead, if_named, numbers_read, Understood}
use Rattle.reading.specs.Found.{named_of, few_of}
use Rattle.reading.specs.declared.Name.{Name}
use Rattle.reading.specs.declared.Shape.{Shape}
use Rattle.reading.specs.declared.Line.{Line}
use Rattle.reading.specs.declared.Line.TheVariants.{Call, Comment, NoCall}
use Rattle.reading.proofs.Splitting.{further_none, further_some, word_taken}
use Rattle.reading.proofs.Shapes.{fixed_by, shape_most, line_shaped}
use Rattle.reading.proofs.Spelling.{named_usable}

-- an empty line is a comment
pub empty_comment : (line places : List ℕ) → length line ≡ 0 → Understood line places places Comment
unfolding is_comment meaning_of line_of numbers_read
empty_comment [] places e = record { answer = refl; numbers = refl }
empty_comment (b ∷ bs) places e = absurd (omega arith)

-- a line that starts with # is a comment
pub hash_comment : (line places : List ℕ) → (length line ≡ 0 → ⊥) → get_or line 0 0 ≡ 35
    → Understood line places places Comment
unfolding is_comment meaning_of line_of numbers_read
hash_comment [] places h e = absurd (h refl)
hash_comment (b ∷ bs) places h e = record { answer = rw (eq-eqb b 35 e); numbers = rw (eq-eqb b 35 e) }

no_comment : (line : List ℕ) → (length line ≡ 0 → ⊥) → (get_or line 0 0 ≡ 35 → ⊥) → is_comment line ≡ false
unfolding is_comment
no_comment [] h e = absurd (h refl)
no_comment (b ∷ bs) h e = ne_eqb b 35 e

-- an entry of the table, by its name and its shape
record Entry (name : Name) (shape : Shape) (o : Option Naming) : Type 0 where
  entry : Naming
  names : entry.name ≡ name
  shapes : entry.shape ≡ shape
  found : o ≡ Some entry

named_as : (name : Name) (shape : Shape) (o : Option Naming) → Some (name, shape) ≡ named_of o → Entry name shape o
unfolding named_of
named_as name shape None e = absurd (let z : ◌≡◌ {A = ℕ} 0 1 = cc in omega arith)
named_as name shape (Some x) e =
    let both : ◌≡◌ {A = Name × Shape} (name, shape) (x.name, x.shape) = cc in
    record {
      entry = x;
      names = sym (ap (λ (p : Name × Shape). p.0) both);
      shapes = sym (ap (λ (p : Name × Shape). p.1) both);
      found = refl;
    }

named_nothing : (o : Option Naming) → None ≡ named_of o → o ≡ None
unfolding named_of
named_nothing None e = refl
named_nothing (Some x) e = absurd (let z : ◌≡◌ {A = ℕ} 0 1 = cc in omega arith)

-- if all numbers were counted, every word is a number and each has a place
few_some : (places count : ℕ) (o : Option (List ℕ)) → Some count ≡ few_of places o
    → (ns : List ℕ) × (o ≡ Some ns) × (length ns ≡ count) × (count ≤ places)
unfolding few_of
few_some places count None e = absurd (let z : ◌≡◌ {A = ℕ} 0 1 = cc in omega arith)
few_some places count (Some ns) e = by (leb (length ns) places) refl e
  where
    by : (t : Bool) → leb (length ns) places ≡ t → Some count ≡ pick t (Some (length ns)) None
        → (ms : List ℕ) × (Some ns ≡ Some ms) × (length ms ≡ count) × (count ≤ places)
    by true f g =
        let same : length ns ≡ count = cc in
        (ns, refl, same, omega (arith, leb-true (length ns) places f))
    by false f g = absurd (let z : ◌≡◌ {A = ℕ} 0 1 = cc in omega arith)

-- if every word is a number, `numbersAhead` has the numbers of all words
pub ahead_all : (ws : List (List ℕ)) (ns : List ℕ) → numbers_of ws ≡ Some ns → numbers_ahead ws ≡ ns
unfolding numbers_of with_number numbers_ahead if_number
ahead_all [] ns e = cc
ahead_all (w ∷ ws) ns e = by (number_of w) (numbers_of ws) refl e (ahead_all ws)
  where
    by : (o : Option ℕ) (p : Option (List ℕ)) → numbers_of ws ≡ p → with_number o p ≡ Some ns
        → ((ms : List ℕ) → numbers_of ws ≡ Some ms → numbers_ahead ws ≡ ms) → if_number o (numbers_ahead ws) ≡ ns
    by None p f g rest = absurd (let z : ◌≡◌ {A = ℕ} 0 1 = cc in omega arith)
    by (Some n) None f g rest = absurd (let z : ◌≡◌ {A = ℕ} 0 1 = cc in omega arith)
    by (Some n) (Some ms) f g rest = let r = rest ms f in cc

-- a line that is no comment is no call if it is too long
pub too_long : (line places : List ℕ) → (length line ≡ 0 → ⊥) → (get_or line 0 0 ≡ 35 → ⊥) → most_bytes < length line
    → Understood line places places NoCall
unfolding meaning_of line_of numbers_read
too_long line places filled other h =
    let no = no_comment line filled other in
    let long = lt-ltb most_bytes (length line) h in
    record { answer = rw (no, long); numbers = rw (no, long) }

-- what is told of a line that is no comment and not too long: the answer, and what stands in the buffer
abbrev pub Told : List ℕ → List ℕ → List ℕ → Line → Type 0
Told line places after r =
    (r ≡ line_of (call_with (naming_of (first_word line)) (numbers_of (further_words line))))
    × (after ≡ sets places 0 (if_named (naming_of (first_word line)) (numbers_ahead (further_words line))))

-- so this is what the line says
pub plainly_told : (line places after : List ℕ) (r : Line) → (length line ≡ 0 → ⊥) → (get_or line 0 0 ≡ 35 → ⊥)
    → length line ≤ most_bytes → Told line places after r → Understood line places after r
unfolding meaning_of numbers_read
plainly_told line places after r filled other h t =
    let no = no_comment line filled other in
    let short = le-ltb most_bytes (length line) h in
    record { answer = rw (no, short) t.0; numbers = rw (no, short) t.1 }

-- a line whose first word, which ends at a place, names a call
pub record Headed (line : List ℕ) (end : ℕ) (name : Name) (shape : Shape) : Type 0 where
  pub ends : end ≡ length (first_word line)
  pub names : Some (name, shape) ≡ named_of (naming_of (take end line))

-- a line without a name is no call
pub unnamed : (line places : List ℕ) (end : ℕ) → end ≡ length (first_word line)
    → None ≡ named_of (naming_of (take end line)) → Told line places places NoCall
unfolding call_with line_of if_named
unnamed line places end ends n =
    let first = word_taken line end ends in
    let no : naming_of (first_word line) ≡ None = rw first at (named_nothing (naming_of (take end line)) n) in
    (rw no, rw no)

-- the line that code makes of a name, a shape and the first numbers
abbrev pub shaped : Name → Shape → List ℕ → Line
shaped name shape ns = unwrap_or (then_some (shape_right shape ns) (Call name shape (length ns))) NoCall

pub is_made : (name : Name) (shape : Shape) (ns : List ℕ) (count : ℕ) {t : Bool} {o : Option Line}
    → o ≡ then_some t (Call name shape count) → t ≡ shape_right shape ns → count ≡ length ns → unwrap_or o NoCall ≡ shaped name shape ns
is_made name shape ns count e f g = rw (e, f, g)

module _ (line places : List ℕ) (end : ℕ) (name : Name) (shape : Shape) (h : Headed line end name shape) where
  named : Entry name shape (naming_of (first_word line))
  named = rw (word_taken line end h.ends) at (named_as name shape (naming_of (take end line)) h.names)

  -- the line is the call of the entry if the numbers have its shape
  entry_shaped : (ns : List ℕ) → shaped name shape ns ≡ line_of (call_with (Some named.entry) (Some ns))
  entry_shaped ns =
      ap₂ (λ (n : Name) (s : Shape). shaped n s ns) (sym named.names) (sym named.shapes) ∙ line_shaped named.entry ns

  -- a name alone has no numbers
  pub alone : end ≡ length line → Told line places places (shaped name shape [])
  unfolding if_named numbers_of numbers_ahead
  alone e =
      let words = further_none line (sym h.ends ∙ e) in
      (rw (named.found, words) (entry_shaped []), rw (named.found, words))

  -- what is read after the name: the numbers, which stand in their places
  module _ (more : end ≡ length line → ⊥) (after : List ℕ) {rest : List ℕ} (tail : rest ≡ drop (end + 1) line)
      (stands : after ≡ sets places 0 (numbers_ahead (words_of rest))) where
    words : List (List ℕ)
    words = words_of rest

    words_are : further_words line ≡ words
    unfolding words
    words_are = rw (tail, h.ends) (further_some line (λ z. more (h.ends ∙ z)))

    read : after ≡ sets places 0 (if_named (naming_of (first_word line)) (numbers_ahead (further_words line)))
    unfolding words if_named
    read = rw (named.found, words_are) stands

    -- the line is no call if a word is no number, or if there are more numbers than places
    pub not_all : most_numbers ≤ length places
        → None ≡ few_of (length places) (numbers_of (words_of rest))
        → Told line places after NoCall
    unfolding words call_with line_of few_of
    not_all room few = (rw (named.found, words_are) (by (numbers_of words) few), read)
      where
        few_fixed : fixed_by named.entry.shape ≤ most_numbers
        few_fixed = omega (arith, (named_usable (first_word line) named.entry named.found).few)

        surplus : (ns : List ℕ) (t : Bool) → leb (length ns) (length places) ≡ t
            → None ≡ pick t (Some (length ns)) None → NoCall ≡ line_of (call_with (Some named.entry) (Some ns))
        surplus ns true f g = absurd (let z : ◌≡◌ {A = ℕ} 0 1 = cc in omega arith)
        surplus ns false f g =
            rw (shape_most named.entry.shape ns few_fixed (omega (arith, leb-false (length ns) (length places) f)))

        by : (o : Option (List ℕ)) → None ≡ few_of (length places) o → NoCall ≡ line_of (call_with (Some named.entry) o)
        by None f = refl
        by (Some ns) f = surplus ns (leb (length ns) (length places)) refl f

    module _ (count : ℕ) (few : Some count ≡ few_of (length places) (numbers_of (words_of rest))) where
      numbers : (ns : List ℕ) × (numbers_of words ≡ Some ns) × (length ns ≡ count) × (count ≤ length places)
      unfolding words
      numbers = few_some (length places) count (numbers_of words) few

      -- every number has its place
      pub count_within : count ≤ length after
      unfolding words
      count_within = omega (arith, numbers.3, ap length stands, length-sets places 0 (numbers_ahead words))

      in_front : take count after ≡ numbers.0
      unfolding words
      in_front =
          let ns = numbers.0 in
          ap (take count) (stands ∙ ap (sets places 0) (ahead_all words ns numbers.1))
          ∙ ap (λ (k : ℕ). take k (sets places 0 ns)) (sym numbers.2)
          ∙ sets_front places ns (omega (arith, numbers.2, numbers.3))

      -- the line is a call if the numbers have its shape
      pub is_shaped : Told line places after (shaped name shape (take count after))
      is_shaped = (rw (named.found, words_are, numbers.1, in_front) (entry_shaped numbers.0), read)
