-- Laws on how many of the numbers below n pass a test, and on sums over a table by an index.
use Prim.Native.Nat.{ℕ, zero, suc, ◌+◌, ◌*◌, ◌/◌, ◌%◌, ◌≤◌, ◌<◌}
use native.Mathlib.Nat.{add-mul, mul-add, div-add-mod', zero-mul, one-mul}
use native.Mathlib.Numerals.{add-one}
use native.Mathlib.Omega.{arith}
use mathlib.Core.Bool.{Bool, true, false}
use mathlib.Core.List.{List}
use mathlib.Core.Logic.{⊎_elim}
use mathlib.Core.Path.{◌≡◌, refl, sym, ap, ◌∙◌}
use lib.Dec.{ltb}
use lib.ListN.{length, get_or}
use borrow.Author.Tests.{ltb-false}
use Rattle.basics.proofs.Cases.{never, last_or_below}
use Rattle.basics.proofs.Tables.{is_table}
use Rattle.basics.proofs.TableSums.{sum_more}
use Rattle.basics.specs.Choice.{pick}
use Rattle.basics.specs.Lists.{total, sum, table, table_from, count_below}

-- a count, raised by one if a test passes
abbrev pub more : Bool → ℕ → ℕ
more t n = pick t (n + 1) n

-- no more numbers are counted than there are
pub count_within : (n : ℕ) (p : ℕ → Bool) → count_below n p ≤ n
unfolding count_below
count_within zero p = omega arith
count_within (suc n) p = by (p n) (count_within n p)
  where
    by : (b : Bool) → count_below n p ≤ n → more b (count_below n p) ≤ suc n
    by true h = omega arith
    by false h = omega arith

-- the count over one number more, by whether that number passes
pub count_next : (n : ℕ) (p : ℕ → Bool) (t : Bool) → p n ≡ t → count_below (n + 1) p ≡ more t (count_below n p)
unfolding count_below
count_next n p t e = rw (add-one, e)

-- two tests that agree below n count the same
pub count_same : (n : ℕ) (p q : ℕ → Bool) → ((k : ℕ) → k < n → p k ≡ q k) → count_below n p ≡ count_below n q
unfolding count_below
count_same zero p q h = refl
count_same (suc n) p q h = rw (h n (omega arith), count_same n p q (λ k l. h k (omega arith)))

-- a test that passes wherever another does counts at least as many
pub count_most : (n : ℕ) (p q : ℕ → Bool) → ((k : ℕ) → k < n → p k ≡ true → q k ≡ true) →
    count_below n p ≤ count_below n q
unfolding count_below
count_most zero p q h = omega arith
count_most (suc n) p q h = by (p n) (q n) refl refl (count_most n p q (λ k l. h k (omega arith)))
  where
    by : (a b : Bool) → p n ≡ a → q n ≡ b → count_below n p ≤ count_below n q →
        more a (count_below n p) ≤ more b (count_below n q)
    by true true e f m = omega arith
    by true false e f m = absurd (never (sym f ∙ h n (omega arith) e))
    by false true e f m = omega arith
    by false false e f m = m

-- it counts more if it passes for some number for which the other does not
pub count_less : (n : ℕ) (p q : ℕ → Bool) → ((k : ℕ) → k < n → p k ≡ true → q k ≡ true) →
    (j : ℕ) → j < n → p j ≡ false → q j ≡ true → count_below n p < count_below n q
unfolding count_below
count_less zero p q h j l e f = absurd (omega arith)
count_less (suc n) p q h j l e f =
    ⊎_elim
    (λ (z : j ≡ n). here (p n) (q n) (rw z at e) (rw z at f))
    (λ (z : j < n). later (p n) (q n) refl refl (count_less n p q (λ k m. h k (omega arith)) j z e f))
    (last_or_below j n l)
  where
    here : (a b : Bool) → a ≡ false → b ≡ true → more a (count_below n p) < more b (count_below n q)
    here true b x y = absurd (never (sym x))
    here false true x y = let m = count_most n p q (λ k m. h k (omega arith)) in omega arith
    here false false x y = absurd (never y)

    later : (a b : Bool) → p n ≡ a → q n ≡ b → count_below n p < count_below n q →
        more a (count_below n p) < more b (count_below n q)
    later true true x y m = omega arith
    later true false x y m = absurd (never (sym y ∙ h n (omega arith) x))
    later false true x y m = omega arith
    later false false x y m = m

-- two tables that agree have the same sum
pub sum_same : (n : ℕ) (f g : ℕ → ℕ) → ((k : ℕ) → k < n → f k ≡ g k) → sum (table n f) ≡ sum (table n g)
unfolding total table_from
sum_same zero f g h = refl
sum_same (suc n) f g h =
    let e = sum_more n f in let i = sum_more n g in
    let j = sum_same n f g (λ k l. h k (omega arith)) in
    let l = h n (omega arith) in
    omega arith

-- the sum of 1 for each number that passes a test is the count
pub sum_ones : (n : ℕ) (p : ℕ → Bool) → sum (table n (λ (k : ℕ). pick (p k) 1 0)) ≡ count_below n p
unfolding total table_from count_below
sum_ones zero p = refl
sum_ones (suc n) p = sum_more n (λ (k : ℕ). pick (p k) 1 0) ∙ by (p n) (sum_ones n p)
  where
    by : (b : Bool) → sum (table n (λ (k : ℕ). pick (p k) 1 0)) ≡ count_below n p →
        sum (table n (λ (k : ℕ). pick (p k) 1 0)) + pick b 1 0 ≡ more b (count_below n p)
    by true e = omega arith
    by false e = omega arith

-- if no number is above b, their sum is at most b times the count of those above 0
pub sum_counted : (n : ℕ) (f : ℕ → ℕ) (b : ℕ) → ((k : ℕ) → f k ≤ b) →
    sum (table n f) ≤ count_below n (λ (k : ℕ). ltb 0 (f k)) * b
unfolding total table_from count_below
sum_counted zero f b h = omega arith
sum_counted (suc n) f b h =
    by (ltb 0 (f n)) refl (sum_more n f) (sum_counted n f b h)
  where
    by : (t : Bool) → ltb 0 (f n) ≡ t → sum (table (suc n) f) ≡ sum (table n f) + f n →
        sum (table n f) ≤ count_below n (λ (k : ℕ). ltb 0 (f k)) * b →
        sum (table (suc n) f) ≤ more t (count_below n (λ (k : ℕ). ltb 0 (f k))) * b
    by true e s i =
        let m = h n in
        let a = add-mul (count_below n (λ (k : ℕ). ltb 0 (f k))) 1 b in
        omega (arith, one-mul b)
    by false e s i = let z = ltb-false 0 (f n) e in omega arith

-- The quotients of the products c × g by t, times t, and their remainders add up to the sum of the products.
pub sum_parts : (n c t : ℕ) (g : ℕ → ℕ) →
    sum (table n (λ (k : ℕ). c * g k / t)) * t + sum (table n (λ (k : ℕ). c * g k % t)) ≡ c * sum (table n g)
unfolding total table_from
sum_parts zero c t g = omega (arith, zero-mul t)
sum_parts (suc n) c t g =
    let q = sum_more n (λ (k : ℕ). c * g k / t) in
    let r = sum_more n (λ (k : ℕ). c * g k % t) in
    let a = add-mul (sum (table n (λ (k : ℕ). c * g k / t))) (c * g n / t) t in
    let d = div-add-mod' (c * g n) t in
    let m = mul-add c (sum (table n g)) (g n) in
    let i = sum_parts n c t g in
    let x = ap (λ (y : ℕ). y * t) q in
    let y = ap (λ (z : ℕ). c * z) (sum_more n g) in
    omega arith

-- the sum of a list is the sum of the table of its elements
pub sum_listed : (xs : List ℕ) (n : ℕ) → length xs ≡ n → sum (table n (λ (k : ℕ). get_or xs k 0)) ≡ sum xs
sum_listed xs n h = ap sum (sym (is_table n (λ (k : ℕ). get_or xs k 0) xs 0 h (λ i l. refl)))
