-- Numbers, words and whole calls that are written are read back the same.
use Prim.Native.Nat.{ℕ, zero, suc, ◌+◌, ◌*◌, ◌/◌, ◌%◌, ◌^◌, ◌≤◌, ◌<◌}
use native.Mathlib.Nat.{div-add-mod'}
use native.Mathlib.Omega.{arith}
use mathlib.Core.Path.{◌≡◌, refl, ap, ◌∙◌}
use mathlib.Core.Bool.{true, false, ◌&&◌}
use mathlib.Core.List.{List, [], ◌∷◌, ◌++◌, map, append-nil}
use Rattle.std.specs.Prelude.{Some}
use lib.Dec.{ltb, leb}
use lib.ListN.{length}
use borrow.Author.Tests.{ne_eqb, lt-ltb, le-ltb, ltb-true, leb-true}
use Rattle.basics.specs.Lists.{Every, up_to}
use Rattle.basics.specs.Lists.Every.{nobody, also}
use Rattle.basics.proofs.Cases.{never, pick_case, and_true}
use Rattle.basics.proofs.Everywhere.{every_map}
use Rattle.writing.specs.Digits.{digit, digits_within, digits_of}
use Rattle.writing.specs.Words.{space, spaced, joined}
use Rattle.writing.proofs.Digits.{tenth_below, digits_some}
use Rattle.reading.specs.Numbers.{is_digit, only_digits, value_from, value_of, number_of}
use Rattle.reading.specs.Words.{first_word, further_words, words_of}
use Rattle.reading.specs.Calls.{Naming, namings, naming_of, shape_right, with_number, numbers_of}
use Rattle.reading.specs.Lines.{is_comment, most_bytes, call_with, meaning_of}
use Rattle.reading.specs.Lines.Meaning.{call}
use Rattle.reading.proofs.Values.{value_append}
use Rattle.reading.proofs.Spelling.{only_letters, Usable, usable_found}

value_last : (v d : ℕ) → value_from v (digit d ∷ []) ≡ v * 10 + d
unfolding value_from
value_last v d = omega arith

-- the digits of a number have its value
digits_value : (k n : ℕ) → n < 10 ^ suc k → value_of (digits_within (suc k) n) ≡ n
unfolding digits_within
digits_value zero n h = rw (lt-ltb n 10 h) (value_last 0 n ∙ omega arith)
digits_value (suc k) n h =
    pick_case (λ (l : List ℕ). value_of l ≡ n) (ltb n 10) _ _
    (λ e. value_last 0 n ∙ omega arith)
    (λ e. value_append 0 (digits_within (suc k) (n / 10)) (digit (n % 10) ∷ [])
    ∙ ap (λ (v : ℕ). value_from v (digit (n % 10) ∷ [])) (digits_value k (n / 10) (tenth_below (suc k) n h))
    ∙ value_last (n / 10) (n % 10)
    ∙ div-add-mod' n 10)

is_digit_lem : (d : ℕ) → d < 10 → is_digit (digit d) ≡ true
unfolding is_digit
is_digit_lem d h = rw (lt-ltb 47 (48 + d) (omega arith), lt-ltb (48 + d) 58 (omega arith))

only_append : (xs ys : List ℕ) → only_digits xs ≡ true → only_digits ys ≡ true → only_digits (xs ++ ys) ≡ true
unfolding only_digits
only_append [] ys e f = f
only_append (x ∷ xs) ys e f =
    let both = and_true (is_digit x) (only_digits xs) e in
    rw both.0 (only_append xs ys both.1 f)

only_one : (d : ℕ) → d < 10 → only_digits (digit d ∷ []) ≡ true
unfolding only_digits
only_one d h = rw (is_digit_lem d h)

digits_only : (k n : ℕ) → only_digits (digits_within k n) ≡ true
unfolding digits_within
digits_only zero n = unfold only_digits in refl
digits_only (suc k) n =
    pick_case (λ (l : List ℕ). only_digits l ≡ true) (ltb n 10) _ _
    (λ e. only_one n (ltb-true n 10 e))
    (λ e. only_append (digits_within k (n / 10)) (digit (n % 10) ∷ []) (digits_only k (n / 10))
    (only_one (n % 10) (omega arith)))

-- a number that is written is read back the same
pub digits_read : (n : ℕ) → n < 2 ^ 64 → number_of (digits_of n) ≡ Some n
unfolding number_of digits_of
digits_read n h =
    let v = digits_value 19 n (omega arith) in
    rw (lt-ltb _ _ (digits_some 19 n), digits_only 20 n, v, lt-ltb n (2 ^ 64) h)

-- a word has no space
abbrev pub Spaceless : List ℕ → Type 0
Spaceless = Every (λ b. b ≡ space → ⊥)

first_of : (w rest : List ℕ) → Spaceless w → first_word (w ++ space ∷ rest) ≡ w
unfolding up_to
first_of w rest nobody = refl
first_of w rest (also {x = b} {xs = bs} p ps) = rw (ne_eqb b space p) (ap (λ (l : List ℕ). b ∷ l) (first_of bs rest ps))

first_alone : (w : List ℕ) → Spaceless w → first_word w ≡ w
unfolding up_to
first_alone w nobody = refl
first_alone w (also {x = b} {xs = bs} p ps) = rw (ne_eqb b space p) (ap (λ (l : List ℕ). b ∷ l) (first_alone bs ps))

further_of : (w rest : List ℕ) → Spaceless w → further_words (w ++ space ∷ rest) ≡ first_word rest ∷ further_words rest
unfolding further_words
further_of w rest nobody = refl
further_of w rest (also {x = b} {xs = bs} p ps) = rw (ne_eqb b space p) (further_of bs rest ps)

further_alone : (w : List ℕ) → Spaceless w → further_words w ≡ []
unfolding further_words
further_alone w nobody = refl
further_alone w (also {x = b} {xs = bs} p ps) = rw (ne_eqb b space p) (further_alone bs ps)

-- if a line is made of words, these are the words that are read from it
pub joined_words : (w : List ℕ) (ws : List (List ℕ)) → Spaceless w → Every Spaceless ws
    → words_of (joined (w ∷ ws)) ≡ w ∷ ws
unfolding words_of joined spaced
joined_words w ws p nobody = rw (append-nil w, first_alone w p, further_alone w p)
joined_words w ws p (also {x = v} {xs = vs} q qs) =
    rw (first_of w (v ++ spaced vs) p, further_of w (v ++ spaced vs) p)
    (ap (λ (l : List (List ℕ)). w ∷ l) (joined_words v vs q qs))

digit_other : (b : ℕ) → is_digit b ≡ true → b ≡ space → ⊥
unfolding is_digit
digit_other b e f = never (rw f at e)

digits_spaceless : (w : List ℕ) → only_digits w ≡ true → Spaceless w
unfolding only_digits
digits_spaceless [] e = nobody
digits_spaceless (b ∷ bs) e =
    let both = and_true (is_digit b) (only_digits bs) e in
    also (digit_other b both.0) (digits_spaceless bs both.1)

-- numbers of 64 bits
abbrev pub Numbers : List ℕ → Type 0
Numbers = Every (λ n. n < 2 ^ 64)

texts_spaceless : (ns : List ℕ) → Every Spaceless (map digits_of ns)
unfolding digits_of
texts_spaceless [] = nobody
texts_spaceless (n ∷ ns) = also (digits_spaceless (digits_of n) (digits_only 20 n)) (texts_spaceless ns)

-- numbers that are written are read back the same
pub texts_read : (ns : List ℕ) → Numbers ns → numbers_of (map digits_of ns) ≡ Some ns
unfolding numbers_of with_number
texts_read ns nobody = refl
texts_read ns (also {x = n} {xs = ms} p ps) = rw (digits_read n p, texts_read ms ps)

-- a word of letters is a single word, and does not begin a comment
letter_above : (b : ℕ) → (leb 97 b && leb b 122) ≡ true → 97 ≤ b
letter_above b e = leb-true 97 b (and_true (leb 97 b) (leb b 122) e).0

above_other : (b : ℕ) → 97 ≤ b → b ≡ space → ⊥
above_other b h e = omega arith

letters_spaceless : (w : List ℕ) → only_letters w ≡ true → Spaceless w
unfolding only_letters
letters_spaceless [] e = nobody
letters_spaceless (b ∷ bs) e =
    let both = and_true (leb 97 b && leb b 122) (only_letters bs) e in
    also (above_other b (letter_above b both.0)) (letters_spaceless bs both.1)

letters_begin : (w rest : List ℕ) → only_letters w ≡ true → 0 < length w → is_comment (w ++ rest) ≡ false
unfolding only_letters is_comment
letters_begin [] rest e h = absurd (omega arith)
letters_begin (b ∷ bs) rest e h =
    ne_eqb b 35 (λ f. omega (arith, letter_above b (and_true (leb 97 b && leb b 122) (only_letters bs) e).0))

-- a call as it is written: its name and its arguments, with one space between two words
abbrev pub written : Naming → List ℕ → List ℕ
written x ns = joined (x.word ∷ map digits_of ns)

-- A call that is written is read as that call, for every list of arguments that has its shape.
pub WrittenReads : Naming → Type 0
WrittenReads x =
    (ns : List ℕ) → Numbers ns → shape_right x.shape ns ≡ true → length (written x ns) ≤ most_bytes
    → meaning_of (written x ns) ≡ call x.name x.shape ns

written_reads : (x : Naming) → (naming_of x.word ≡ Some x) × Usable x → WrittenReads x
unfolding WrittenReads meaning_of call_with
written_reads x u ns small right short =
    let letters = u.1.letters in
    let words : first_word (written x ns) ∷ further_words (written x ns) ≡ x.word ∷ map digits_of ns =
    unfold words_of in
    joined_words x.word (map digits_of ns) (letters_spaceless x.word letters) (texts_spaceless ns) in
    let first : first_word (written x ns) ≡ x.word = cc in
    let further : further_words (written x ns) ≡ map digits_of ns = cc in
    let starts : is_comment (written x ns) ≡ false = unfold joined in letters_begin x.word (spaced (map digits_of ns)) letters u.1.filled in
    rw (starts, le-ltb most_bytes (length (written x ns)) short, first, further, u.0, texts_read ns small, right)

pub calls_read : Every WrittenReads namings
calls_read = every_map written_reads usable_found
