-- Laws on the places of the rows: which place a starting day has, and what the rows are once a further one was entered.
use Prim.Native.Nat.{ℕ, zero, suc, ◌+◌, ◌≤◌, ◌<◌}
use native.Mathlib.Omega.{arith}
use native.Mathlib.Numerals.{add-one}
use mathlib.Core.Path.{◌≡◌, refl, sym, ap, ◌∙◌}
use mathlib.Core.Bool.{Bool, true, false, ◌||◌}
use mathlib.Core.List.{List, [], ◌∷◌, ◌++◌}
use lib.Dec.{eqb}
use lib.ListN.{length, set, take, drop, length-set, take-append-drop}
use lib.Seq.{take_at, length-take-le}
use borrow.Author.Tests.{eqb-true, eqb-false}
use Rattle.basics.specs.Choice.{pick}
use Rattle.basics.specs.Lists.{Every, Sorted, at_front}
use Rattle.basics.proofs.Cases.{never}
use Rattle.basics.proofs.Everywhere.{every_map}
use Rattle.calendar.specs.declared.Day.{Day}
use Rattle.rates.specs.declared.RateRow.{RateRow}
use Rattle.rates.specs.declared.Rates.{Rates}
use Rattle.rates.specs.Rows.{most_rows, start_of, holds, with_row, place_of, listed_rates, with_rate, Apart}

-- ---- a starting day is held if it has a place among the rows
pub held_place : (d : Day) (xs : List RateRow) → holds d xs ≡ true → place_of d xs < length xs
unfolding holds place_of
held_place d [] e = absurd (never e)
held_place d (r ∷ rs) e = by (eqb (start_of r).0 d.0) e (held_place d rs)
  where
    by : (t : Bool) → (t || holds d rs) ≡ true → (holds d rs ≡ true → place_of d rs < length rs) → pick t 0 (place_of d rs + 1) < length (r ∷ rs)
    by true q f = omega arith
    by false q f = omega (arith, f q)

pub new_place : (d : Day) (xs : List RateRow) → holds d xs ≡ false → place_of d xs ≡ length xs
unfolding holds place_of
new_place d [] e = refl
new_place d (r ∷ rs) e = by (eqb (start_of r).0 d.0) e (new_place d rs)
  where
    by : (t : Bool) → (t || holds d rs) ≡ false → (holds d rs ≡ false → place_of d rs ≡ length rs) → pick t 0 (place_of d rs + 1) ≡ length (r ∷ rs)
    by true q f = absurd (never (sym q))
    by false q f = omega (arith, f q)

pub place_most : (d : Day) (xs : List RateRow) → place_of d xs ≤ length xs
place_most d xs = by (holds d xs) refl
  where
    by : (t : Bool) → holds d xs ≡ t → place_of d xs ≤ length xs
    by true e = omega (arith, held_place d xs e)
    by false e = omega (arith, new_place d xs e)

-- ---- a further row
-- a row for a starting day that is held uses no further place, and one for a new starting day uses one
pub held_length : (x : RateRow) (xs : List RateRow) → place_of (start_of x) xs < length xs → length (with_row x xs) ≡ length xs
unfolding place_of with_row
held_length x [] h = absurd (omega (arith, h))
held_length x (r ∷ rs) h = by (eqb (start_of r).0 (start_of x).0) h (held_length x rs)
  where
    by : (t : Bool) → pick t 0 (place_of (start_of x) rs + 1) < length (r ∷ rs) → (place_of (start_of x) rs < length rs → length (with_row x rs) ≡ length rs) →
        length (pick t (x ∷ rs) (r ∷ with_row x rs)) ≡ length (r ∷ rs)
    by true q f = refl
    by false q f = ap suc (f (omega (arith, q)))

pub new_length : (x : RateRow) (xs : List RateRow) → place_of (start_of x) xs ≡ length xs → length (with_row x xs) ≡ length xs + 1
unfolding place_of with_row
new_length x [] e = refl
new_length x (r ∷ rs) e = by (eqb (start_of r).0 (start_of x).0) e (new_length x rs)
  where
    by : (t : Bool) → pick t 0 (place_of (start_of x) rs + 1) ≡ length (r ∷ rs) → (place_of (start_of x) rs ≡ length rs → length (with_row x rs) ≡ length rs + 1) →
        length (pick t (x ∷ rs) (r ∷ with_row x rs)) ≡ length (r ∷ rs) + 1
    by true q f = absurd (omega (arith, q))
    by false q f = omega (arith, f (omega (arith, q)))

-- the rows with a row put into its place
pub set_row : (x : RateRow) (n : ℕ) (rows : List RateRow) → n ≤ length rows → place_of (start_of x) (take n rows) < length rows →
    set rows (place_of (start_of x) (take n rows)) x ≡ at_front (with_row x (take n rows)) rows
unfolding place_of with_row
set_row x zero [] few h = absurd (omega (arith, h))
set_row x zero (r ∷ rs) few h = refl
set_row x (suc n) [] few h = absurd (omega (arith, h))
set_row x (suc n) (r ∷ rs) few h = by (eqb (start_of r).0 (start_of x).0) h (λ q. set_row x n rs (omega (arith, few)) q)
  where
    size : length (take n rs) ≡ n
    size = length-take-le n rs (omega (arith, few))

    by : (t : Bool) → pick t 0 (place_of (start_of x) (take n rs) + 1) < length (r ∷ rs) →
        (place_of (start_of x) (take n rs) < length rs → set rs (place_of (start_of x) (take n rs)) x ≡ at_front (with_row x (take n rs)) rs) →
        set (r ∷ rs) (pick t 0 (place_of (start_of x) (take n rs) + 1)) x ≡ at_front (pick t (x ∷ take n rs) (r ∷ with_row x (take n rs))) (r ∷ rs)
    by true q f = ap (◌∷◌ x) (sym (ap (λ (m : ℕ). take n rs ++ drop m rs) size ∙ take-append-drop n rs))
    by false q f = rw (add-one (place_of (start_of x) (take n rs))) (ap (◌∷◌ r) (f (omega (arith, q))))

-- what holds of the row and of each of the rows holds of each of them once it was entered
pub every_with : {P : RateRow → Type 0} (x : RateRow) {xs : List RateRow} → P x → Every P xs → Every P (with_row x xs)
unfolding with_row
every_with x p Every.nobody = Every.also p Every.nobody
every_with {P} x p (Every.also {x = r} {xs = rs} q qs) = by (eqb (start_of r).0 (start_of x).0) (every_with x p qs)
  where
    by : (t : Bool) → Every P (with_row x rs) → Every P (pick t (x ∷ rs) (r ∷ with_row x rs))
    by true f = Every.also p qs
    by false f = Every.also q f

-- the starting days stay different
pub apart_with : (x : RateRow) {xs : List RateRow} → Sorted Apart xs → Sorted Apart (with_row x xs)
unfolding with_row
apart_with x Sorted.empty = Sorted.ahead Every.nobody Sorted.empty
apart_with x (Sorted.ahead {x = r} {xs = rs} e later) = by (eqb (start_of r).0 (start_of x).0) refl (apart_with x later)
  where
    by : (t : Bool) → eqb (start_of r).0 (start_of x).0 ≡ t → Sorted Apart (with_row x rs) → Sorted Apart (pick t (x ∷ rs) (r ∷ with_row x rs))
    by true q f = Sorted.ahead (every_map (λ y z w. z (eqb-true (start_of r).0 (start_of x).0 q ∙ w)) e) later
    by false q f = Sorted.ahead (every_with x (eqb-false (start_of r).0 (start_of x).0 q) e) f

-- ---- the rates of a book with a further row
-- as many rows are listed as are counted
pub listed_length : (s : Rates) → length s.rows ≡ most_rows → s.count ≤ most_rows → length (listed_rates s) ≡ s.count
listed_length s size few = length-take-le s.count s.rows (omega (arith, size, few))

module _ (x : RateRow) (s : Rates) (size : length s.rows ≡ most_rows) (few : s.count ≤ most_rows) (fits : place_of (start_of x) (listed_rates s) < most_rows) where
  -- the rows with the row put into its place, and with the count of the rows that there are then
  entered_as_lem : (n : ℕ) → n ≡ length (with_row x (listed_rates s)) → record { rows = set s.rows (place_of (start_of x) (listed_rates s)) x; count = n } ≡ with_rate x s
  unfolding with_rate
  entered_as_lem n e =
      let put = set_row x s.count s.rows (omega (arith, size)) (omega (arith, fits, size)) in
      λ i. record { rows = put i; count = e i }

  pub entered_new : (at : ℕ) → at ≡ place_of (start_of x) (listed_rates s) → at ≡ s.count → record { rows = set s.rows at x; count = at + 1 } ≡ with_rate x s
  entered_new at e z = rw e (entered_as_lem (place_of (start_of x) (listed_rates s) + 1) (omega (arith, listed_length s size few, new_length x (listed_rates s) (omega (arith, listed_length s size few)))))

  pub entered_held : (at : ℕ) → at ≡ place_of (start_of x) (listed_rates s) → (at ≡ s.count → ⊥) → record { rows = set s.rows at x; count = s.count } ≡ with_rate x s
  entered_held at e z =
      let held : place_of (start_of x) (listed_rates s) < length (listed_rates s) = omega (arith, e, z, listed_length s size few, place_most (start_of x) (listed_rates s)) in
      rw e (entered_as_lem s.count (omega (arith, listed_length s size few, held_length x (listed_rates s) held)))

  -- there are still 16 places, and they list the rows with the new one
  pub listed_with : listed_rates (with_rate x s) ≡ with_row x (listed_rates s)
  unfolding with_rate
  listed_with = take_at (with_row x (listed_rates s)) (drop (length (with_row x (listed_rates s))) s.rows) (length (with_row x (listed_rates s))) refl

  pub size_with : length (with_rate x s).rows ≡ most_rows
  size_with = ap (λ (t : Rates). length t.rows) (sym (entered_as_lem _ refl)) ∙ length-set s.rows _ x ∙ size
