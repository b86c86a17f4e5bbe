-- How a word is looked up in the table of names, and that no word stands for two calls.
use Rattle.std.proofs.Common.{◌≡◌, ℕ, suc, ◌≤◌, ◌<◌, Bool, true, false, ◌&&◌, not, List, [], ◌∷◌, eqb, leb, ltb, length, get_or, refl, subst, ap, ap₂, arith}
use Rattle.std.specs.Prelude.{Option, None, Some}
use Rattle.std.proofs.Math.Dec.{eqb-zero-suc, eqb-suc-zero, eqb-suc-suc}
use Rattle.std.proofs.lemmas.Bool.Decides.{nat_tests}
use borrow.Author.Tests.{eq-eqb, eqb-true, leb-true, ltb-true, not-true}
use Rattle.basics.specs.Choice.{pick}
use Rattle.basics.specs.Lists.{Every}
use Rattle.basics.specs.Lists.Every.{nobody, also}
use Rattle.basics.proofs.Cases.{never, and_true}
use Rattle.basics.proofs.Everywhere.{every_map}
use Rattle.reading.specs.Calls.{Naming, same_word, namings, found, naming_of}
use Rattle.reading.specs.Found.{named_of}
use Rattle.reading.specs.declared.Name.{Name}
use Rattle.reading.specs.declared.Shape.{Shape}
use Rattle.reading.proofs.Shapes.{fixed_by}

-- ---- words
-- a word is the same as itself, and as no other
pub same_self : (w : List ℕ) → same_word w w ≡ true
unfolding same_word
same_self [] = refl
same_self (a ∷ w) = rw (eq-eqb a a refl) (same_self w)

same_is : (us vs : List ℕ) → same_word us vs ≡ true → us ≡ vs
unfolding same_word
same_is [] [] e = refl
same_is [] (b ∷ vs) e = absurd (never e)
same_is (a ∷ us) [] e = absurd (never e)
same_is (a ∷ us) (b ∷ vs) e =
    let both = and_true (eqb a b) (same_word us vs) e in
    ap₂ (λ (x : ℕ) (xs : List ℕ). x ∷ xs) (eqb-true a b both.0) (same_is us vs both.1)

-- whether the bytes of a word from a place on are those of another word
abbrev pub spelled : List ℕ → ℕ → List ℕ → Bool
spelled w at [] = true
spelled w at (b ∷ bs) = eqb (get_or w at 0) b && spelled w (suc at) bs

spelled_behind : (a : ℕ) (w : List ℕ) (at : ℕ) (v : List ℕ) → spelled (a ∷ w) (suc at) v ≡ spelled w at v
spelled_behind a w at [] = refl
spelled_behind a w at (b ∷ bs) = ap (λ (t : Bool). eqb (get_or w at 0) b && t) (spelled_behind a w (suc at) bs)

swapped : (s t u : Bool) → (s && (t && u)) ≡ (t && (s && u))
swapped true true u = refl
swapped true false u = refl
swapped false true u = refl
swapped false false u = refl

-- a word is another if it is as long and has the same bytes
same_spelled : (w v : List ℕ) → same_word w v ≡ (eqb (length w) (length v) && spelled w 0 v)
unfolding same_word
same_spelled [] [] = refl
same_spelled [] (b ∷ bs) = rw (eqb-zero-suc (length bs))
same_spelled (a ∷ w) [] = rw (eqb-suc-zero (length w))
same_spelled (a ∷ w) (b ∷ bs) =
    rw (eqb-suc-suc (length w) (length bs), spelled_behind a w 0 bs, same_spelled w bs)
    (swapped (eqb a b) (eqb (length w) (length bs)) (spelled w 0 bs))

-- the entries whose words have n bytes
abbrev pub as_long : ℕ → List Naming → List Naming
as_long n [] = []
as_long n (x ∷ xs) = pick (eqb n (length x.word)) (x ∷ as_long n xs) (as_long n xs)

-- the name and the shape of the first entry whose word has the bytes of this one
abbrev pub spelled_in : List ℕ → List Naming → Option (Name × Shape)
spelled_in w [] = None
spelled_in w (x ∷ xs) = pick (spelled w 0 x.word) (Some (x.name, x.shape)) (spelled_in w xs)

named_among : (n : ℕ) (w : List ℕ) (xs : List Naming) → length w ≡ n → named_of (found w xs) ≡ spelled_in w (as_long n xs)
unfolding found named_of
named_among n w [] e = refl
named_among n w (x ∷ xs) e = rw (same_spelled w x.word, e) (by (eqb n (length x.word)) (named_among n w xs e))
  where
    at : (t : Bool) → named_of (found w xs) ≡ spelled_in w (as_long n xs)
        → named_of (pick t (Some x) (found w xs)) ≡ pick t (Some (x.name, x.shape)) (spelled_in w (as_long n xs))
    at true f = refl
    at false f = f

    by : (t : Bool) → named_of (found w xs) ≡ spelled_in w (as_long n xs)
        → named_of (pick (t && spelled w 0 x.word) (Some x) (found w xs)) ≡ spelled_in w (pick t (x ∷ as_long n xs) (as_long n xs))
    by true f = at (spelled w 0 x.word) f
    by false f = f

-- The length of a word tells which names it can be, and its bytes tell which it is. The names have 4 to 8 bytes.
module _ (w : List ℕ) where
  pub named_4 : 4 ≤ length w → length w < 5 → named_of (naming_of w) ≡ spelled_in w (as_long 4 namings)
  unfolding naming_of
  named_4 l h = named_among 4 w namings (omega arith)

  pub named_5 : 5 ≤ length w → length w < 6 → named_of (naming_of w) ≡ spelled_in w (as_long 5 namings)
  unfolding naming_of
  named_5 l h = named_among 5 w namings (omega arith)

  pub named_6 : 6 ≤ length w → length w < 7 → named_of (naming_of w) ≡ spelled_in w (as_long 6 namings)
  unfolding naming_of
  named_6 l h = named_among 6 w namings (omega arith)

  pub named_7 : 7 ≤ length w → length w < 8 → named_of (naming_of w) ≡ spelled_in w (as_long 7 namings)
  unfolding naming_of
  named_7 l h = named_among 7 w namings (omega arith)

  pub named_8 : 8 ≤ length w → length w < 9 → named_of (naming_of w) ≡ spelled_in w (as_long 8 namings)
  unfolding naming_of
  named_8 l h = named_among 8 w namings (omega arith)

  -- a word of another length is no name
  pub named_short : length w < 4 → named_of (naming_of w) ≡ None
  unfolding naming_of
  named_short h = rw (named_among (length w) w namings refl) (grind (arith, nat_tests))

  pub named_long : 8 < length w → named_of (naming_of w) ≡ None
  unfolding naming_of
  named_long h = rw (named_among (length w) w namings refl) (grind (arith, nat_tests))

pub ruleset by_length = (named_4, named_5, named_6, named_7, named_8, named_short, named_long, nat_tests)

-- ---- what holds of every entry of the table, by a test of each
-- whether every element passes a test
passing : {A : Type 0} → (A → Bool) → List A → Bool
passing p [] = true
passing p (x ∷ xs) = p x && passing p xs

passed : {A : Type 0} (p : A → Bool) (xs : List A) → passing p xs ≡ true → Every (λ x. p x ≡ true) xs
unfolding passing
passed p [] e = nobody
passed p (x ∷ xs) e = let both = and_true (p x) (passing p xs) e in also both.0 (passed p xs both.1)

every_both : {A : Type 0} {P Q R : A → Type 0} (f : (x : A) → P x → Q x → R x) {xs : List A} → Every P xs → Every Q xs → Every R xs
every_both f nobody nobody = nobody
every_both f (also p ps) (also q qs) = also (f _ p q) (every_both f ps qs)

-- whether every byte of a word is a small letter: ASCII has a at 97 and z at 122
unfoldable pub only_letters : List ℕ → Bool
only_letters [] = true
only_letters (b ∷ bs) = (leb 97 b && leb b 122) && only_letters bs

-- an entry can be used: its word has letters and nothing else, and its shape fixes at most six numbers
usable_by : Naming → Bool
usable_by x = only_letters x.word && (ltb 0 (length x.word) && leb (fixed_by x.shape) 6)

-- the same as a fact
pub record Usable (x : Naming) : Type 0 where
  pub letters : only_letters x.word ≡ true
  pub filled : 0 < length x.word
  pub few : fixed_by x.shape ≤ 6

usable_by_lem : (x : Naming) → usable_by x ≡ true → Usable x
unfolding usable_by
usable_by_lem x e =
    let one = and_true (only_letters x.word) _ e in
    let two = and_true (ltb 0 (length x.word)) _ one.1 in
    record { letters = one.0; filled = ltb-true 0 (length x.word) two.0; few = leb-true (fixed_by x.shape) 6 two.1 }

-- every entry can be used
pub usable : Every Usable namings
usable = every_map usable_by_lem (passed usable_by namings (unfold passing usable_by only_letters in refl))

-- what is found can be used
found_usable : (w : List ℕ) (xs : List Naming) → Every Usable xs → (x : Naming) → found w xs ≡ Some x → Usable x
unfolding found
found_usable w xs nobody x e = absurd (let z : ◌≡◌ {A = ℕ} 0 1 = cc in omega arith)
found_usable w xs (also {x = y} {xs = ys} u us) x e =
    by (same_word w y.word) e (found_usable w ys us x)
  where
    by : (t : Bool) → pick t (Some y) (found w ys) ≡ Some x → (found w ys ≡ Some x → Usable x) → Usable x
    by true f rest = let same : y ≡ x = cc in subst Usable same u
    by false f rest = rest f

pub named_usable : (w : List ℕ) (x : Naming) → naming_of w ≡ Some x → Usable x
unfolding naming_of
named_usable w x e = found_usable w namings usable x e

-- ---- no word stands for two calls
-- whether no entry has this word
absent : List ℕ → List Naming → Bool
absent w xs = passing (λ x. not (same_word x.word w)) xs

-- whether no two entries have the same word
distinct : List Naming → Bool
distinct [] = true
distinct (x ∷ xs) = absent x.word xs && distinct xs

-- so each entry is found by its own word
found_own : (xs : List Naming) → distinct xs ≡ true → Every (λ x. found x.word xs ≡ Some x) xs
unfolding distinct absent found
found_own [] e = nobody
found_own (x ∷ xs) e =
    let both = and_true (absent x.word xs) (distinct xs) e in
    also {x = x} {xs = xs} (rw (same_self x.word))
    (every_both (λ y f g. rw (not-true (same_word y.word x.word) f) g) (passed (λ y. not (same_word y.word x.word)) xs both.0) (found_own xs both.1))

-- every entry's word names its call
pub usable_found : Every (λ x. (naming_of x.word ≡ Some x) × Usable x) namings
unfolding naming_of
usable_found =
    every_both (λ x f u. (f, u))
    (found_own namings (unfold distinct absent passing same_word in refl))
    usable
