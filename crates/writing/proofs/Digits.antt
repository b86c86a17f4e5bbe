-- Which digits a number has, and how many.
use Prim.Native.Nat.{ℕ, zero, suc, ◌+◌, ◌/◌, ◌%◌, ◌^◌, ◌≤◌, ◌<◌}
use native.Mathlib.Nat.{pow-suc}
use native.Mathlib.Omega.{arith}
use mathlib.Core.Path.{◌≡◌, sym, ap, ◌∙◌}
use mathlib.Core.List.{List, [], ◌∷◌, ◌++◌, append_assoc}
use lib.Dec.{ltb}
use lib.IntN.{ℤ, pos, negsuc}
use lib.ListN.{length, length-append}
use borrow.Author.Tests.{lt-ltb, le-ltb}
use Rattle.basics.specs.Choice.{pick}
use Rattle.basics.proofs.Cases.{pick_case}
use Rattle.writing.specs.Digits.{digit, digits_within, digits_of, signed_of}

-- the tenth part of a number with at most k + 1 digits has at most k
pub tenth_below : (k n : ℕ) → n < 10 ^ suc k → n / 10 < 10 ^ k
tenth_below k n h = let e = pow-suc 10 k in omega arith

-- a number with at most k + 1 digits has the same digits if k + 2 are allowed
digits_fewer : (k n : ℕ) → n < 10 ^ suc k → digits_within (suc (suc k)) n ≡ digits_within (suc k) n
unfolding digits_within
digits_fewer zero n h = rw (lt-ltb n 10 h)
digits_fewer (suc k) n h =
    ap (λ (l : List ℕ). pick (ltb n 10) (digit n ∷ []) (l ++ digit (n % 10) ∷ []))
    (digits_fewer k (n / 10) (tenth_below (suc k) n h))

digits_within_lem : (k n : ℕ) → length (digits_within k n) ≤ k
unfolding digits_within
digits_within_lem zero n = omega arith
digits_within_lem (suc k) n =
    pick_case (λ (l : List ℕ). length l ≤ suc k) (ltb n 10) _ _
    (λ e. omega arith)
    (λ e. omega (arith, length-append (digits_within k (n / 10)) (digit (n % 10) ∷ []), digits_within_lem k (n / 10)))

-- a number has at most 20 digits
pub digits_most : (n : ℕ) → length (digits_of n) ≤ 20
unfolding digits_of
digits_most n = digits_within_lem 20 n

-- a number up to 2 ^ 63 has at most 19 digits
pub digits_most_signed : (n : ℕ) → n ≤ 2 ^ 63 → length (digits_of n) ≤ 19
unfolding digits_of
digits_most_signed n h = rw (digits_fewer 18 n (omega arith)) (digits_within_lem 19 n)

-- a number with its sign has at most 20 digits and the sign
pub signed_most : (z : ℤ) → length (signed_of z) ≤ 21
unfolding signed_of
signed_most (pos n) = omega (arith, digits_most n)
signed_most (negsuc n) = omega (arith, digits_most (suc n))

-- a number below ten has one digit
pub digits_one : (n : ℕ) → n < 10 → digits_of n ≡ digit n ∷ []
unfolding digits_of digits_within
digits_one n h = rw (lt-ltb n 10 h)

digits_last : (n : ℕ) → 10 ≤ n → digits_within 20 n ≡ digits_within 19 (n / 10) ++ digit (n % 10) ∷ []
unfolding digits_within
digits_last n h = rw (le-ltb n 10 h)

-- any other number has the digits of its tenth part, and then its last digit
digits_tenth : (n : ℕ) → 10 ≤ n → n < 2 ^ 64 → digits_of n ≡ digits_of (n / 10) ++ digit (n % 10) ∷ []
unfolding digits_of
digits_tenth n h f =
    digits_last n h ∙ ap (λ (l : List ℕ). l ++ digit (n % 10) ∷ []) (sym (digits_fewer 18 (n / 10) (omega arith)))

-- a number from 10 up to 99 has two digits
pub digits_pair : (n : ℕ) → 10 ≤ n → n < 100 → digits_of n ≡ digit (n / 10) ∷ digit (n % 10) ∷ []
digits_pair n h f =
    digits_tenth n h (omega arith) ∙ ap (λ (l : List ℕ). l ++ digit (n % 10) ∷ []) (digits_one (n / 10) (omega arith))

-- a number from 100 on has the digits of its hundredth part, and then its last two digits
pub digits_more : (n : ℕ) → 100 ≤ n → n < 2 ^ 64
    → digits_of n ≡ digits_of (n / 100) ++ digit (n % 100 / 10) ∷ digit (n % 100 % 10) ∷ []
digits_more n h f =
    let hundredth : n / 10 / 10 ≡ n / 100 = omega arith in
    let first : n / 10 % 10 ≡ n % 100 / 10 = omega arith in
    let second : n % 10 ≡ n % 100 % 10 = omega arith in
    digits_tenth n (omega arith) f
    ∙ ap (λ (l : List ℕ). l ++ digit (n % 10) ∷ []) (digits_tenth (n / 10) (omega arith) (omega arith))
    ∙ append_assoc (digits_of (n / 10 / 10)) (digit (n / 10 % 10) ∷ []) (digit (n % 10) ∷ [])
    ∙ rw (hundredth, first, second)

-- every number has at least one digit
pub digits_some : (k n : ℕ) → 0 < length (digits_within (suc k) n)
unfolding digits_within
digits_some k n =
    pick_case (λ (l : List ℕ). 0 < length l) (ltb n 10) _ _
    (λ e. omega arith)
    (λ e. omega (arith, length-append (digits_within k (n / 10)) (digit (n % 10) ∷ [])))

-- the hundredth part of a number has two digits fewer
pub digits_shorter : (n : ℕ) → 100 ≤ n → n < 2 ^ 64 → length (digits_of n) ≡ length (digits_of (n / 100)) + 2
digits_shorter n h f =
    ap length (digits_more n h f)
    ∙ length-append (digits_of (n / 100)) (digit (n % 100 / 10) ∷ digit (n % 100 % 10) ∷ [])
