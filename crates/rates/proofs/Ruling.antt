-- Laws on the rate in force: which row it is, and that a row that has started stays started.
use Prim.Native.Nat.{ℕ, zero, suc, ◌≤◌, ◌<◌}
use native.Mathlib.Omega.{arith}
use mathlib.Core.Path.{◌≡◌, refl, sym, ap, subst, ◌∙◌}
use mathlib.Core.Bool.{Bool, true, false}
use mathlib.Core.Logic.{⊎_elim}
use mathlib.Core.List.{List, [], ◌∷◌}
use lib.Dec.{ltb, leb, eqb}
use lib.ListN.{length, get_or}
use borrow.Author.Tests.{leb-true, eqb-true, eqb-false, le-leb, lt-ltb, le-ltb}
use Rattle.basics.specs.Choice.{pick}
use Rattle.basics.specs.Lists.{Every}
use Rattle.basics.proofs.Cases.{never, pick_case, below_or_not}
use Rattle.basics.proofs.Everywhere.{every_at}
use Rattle.calendar.specs.declared.Day.{Day}
use Rattle.rates.specs.declared.RateRow.{RateRow}
use Rattle.std.specs.Prelude.{Option}
use Rattle.std.specs.Prelude.{Some, None}
use Rattle.rates.specs.Rows.{start_of, with_row, entered_rows, no_row}
use Rattle.rates.specs.Force.{has_started, or_later, in_force, is_unset}

-- a row, and what is in force without it
abbrev taken : Day → RateRow → Option RateRow → Option RateRow
taken t r f = pick (has_started t r) (or_later r f) f

-- ---- whether a row has started
pub later_set : (r : RateRow) (f : Option RateRow) → is_unset (or_later r f) ≡ false
unfolding or_later
later_set r None = refl
later_set r (Some s) = pick_case (λ (f : Option RateRow). is_unset f ≡ false) (ltb (start_of r).0 (start_of s).0) (Some s) (Some r) (λ e. refl) (λ e. refl)

-- a row that has started makes one in force, and so does one among the others
pub started_set : (t : Day) (r : RateRow) (rs : List RateRow) → has_started t r ≡ true → is_unset (in_force t (r ∷ rs)) ≡ false
unfolding in_force
started_set t r rs e = rw e (later_set r (in_force t rs))

pub others_set : (t : Day) (r : RateRow) (rs : List RateRow) → is_unset (in_force t rs) ≡ false → is_unset (in_force t (r ∷ rs)) ≡ false
unfolding in_force
others_set t r rs e = pick_case (λ (f : Option RateRow). is_unset f ≡ false) (has_started t r) _ _ (λ q. later_set r (in_force t rs)) (λ q. e)

-- F5, Rates: a row that has started stays started
pub started_later : (t u : Day) (r : RateRow) → t.0 ≤ u.0 → has_started t r ≡ true → has_started u r ≡ true
unfolding has_started
started_later t u r h e = le-leb (start_of r).0 u.0 (omega (arith, h, leb-true (start_of r).0 t.0 e))

pub set_later : (t u : Day) (rs : List RateRow) → t.0 ≤ u.0 → is_unset (in_force t rs) ≡ false → is_unset (in_force u rs) ≡ false
unfolding in_force
set_later t u [] h e = absurd (never (sym e))
set_later t u (r ∷ rs) h e = by (has_started t r) refl e (set_later t u rs h)
  where
    by : (s : Bool) → has_started t r ≡ s → is_unset (pick s (or_later r (in_force t rs)) (in_force t rs)) ≡ false →
        (is_unset (in_force t rs) ≡ false → is_unset (in_force u rs) ≡ false) → is_unset (in_force u (r ∷ rs)) ≡ false
    by true q z f = started_set u r rs (started_later t u r h q)
    by false q z f = others_set u r rs (f z)

-- ---- the later of two rows
pub or_below : (r s : RateRow) → (start_of r).0 < (start_of s).0 → or_later r (Some s) ≡ Some s
unfolding or_later
or_below r s h = rw (lt-ltb (start_of r).0 (start_of s).0 h)

pub or_above : (r s : RateRow) → (start_of s).0 ≤ (start_of r).0 → or_later r (Some s) ≡ Some r
unfolding or_later
or_above r s h = rw (le-ltb (start_of r).0 (start_of s).0 h)

-- ---- a further row
-- two rows with one starting day start together
same_started : (t : Day) (r x : RateRow) → (start_of r).0 ≡ (start_of x).0 → has_started t r ≡ has_started t x
unfolding has_started
same_started t r x e = ap (λ (d : ℕ). leb d t.0) e

-- a row that is superseded plays no part
over_same : (r x : RateRow) (f : Option RateRow) → (start_of r).0 ≡ (start_of x).0 → or_later x (or_later r f) ≡ or_later x f
unfolding or_later
over_same r x None e = or_above x r (omega (arith, e))
over_same r x (Some s) e =
    ⊎_elim
    (λ (h : (start_of r).0 < (start_of s).0). ap (or_later x) (or_below r s h))
    (λ (h : (start_of s).0 ≤ (start_of r).0). ap (or_later x) (or_above r s h) ∙ or_above x r (omega (arith, e)) ∙ sym (or_above x s (omega (arith, e))))
    (below_or_not (start_of r).0 (start_of s).0)

superseded : (t : Day) (r x : RateRow) (f : Option RateRow) → (start_of r).0 ≡ (start_of x).0 → taken t x (taken t r f) ≡ taken t x f
superseded t r x f e = by (has_started t x) (same_started t r x e)
  where
    by : (b : Bool) → has_started t r ≡ b → pick b (or_later x (taken t r f)) (taken t r f) ≡ pick b (or_later x f) f
    by true q = rw q (over_same r x f e)
    by false q = rw q

-- the order in which two rows with different starting days were entered plays no part
either_later : (r x : RateRow) → ((start_of r).0 ≡ (start_of x).0 → ⊥) → or_later r (Some x) ≡ or_later x (Some r)
either_later r x z =
    ⊎_elim
    (λ (h : (start_of r).0 < (start_of x).0). or_below r x h ∙ sym (or_above x r (omega (arith, h))))
    (λ (h : (start_of x).0 ≤ (start_of r).0). or_above r x h ∙ sym (or_below x r (omega (arith, h, z))))
    (below_or_not (start_of r).0 (start_of x).0)

over_other : (r x : RateRow) (f : Option RateRow) → ((start_of r).0 ≡ (start_of x).0 → ⊥) → or_later r (or_later x f) ≡ or_later x (or_later r f)
unfolding or_later
over_other r x None z = either_later r x z
over_other r x (Some s) z =
    ⊎_elim
    (λ (h : (start_of r).0 < (start_of s).0).
    ⊎_elim
    (λ (k : (start_of x).0 < (start_of s).0). ap (or_later r) (or_below x s k) ∙ or_below r s h ∙ sym (ap (or_later x) (or_below r s h) ∙ or_below x s k))
    (λ (k : (start_of s).0 ≤ (start_of x).0). ap (or_later r) (or_above x s k) ∙ or_below r x (omega (arith, h, k)) ∙ sym (ap (or_later x) (or_below r s h) ∙ or_above x s k))
    (below_or_not (start_of x).0 (start_of s).0))
    (λ (h : (start_of s).0 ≤ (start_of r).0).
    ⊎_elim
    (λ (k : (start_of x).0 < (start_of s).0). ap (or_later r) (or_below x s k) ∙ or_above r s h ∙ sym (ap (or_later x) (or_above r s h) ∙ or_below x r (omega (arith, h, k))))
    (λ (k : (start_of s).0 ≤ (start_of x).0). ap (or_later r) (or_above x s k) ∙ either_later r x z ∙ sym (ap (or_later x) (or_above r s h)))
    (below_or_not (start_of x).0 (start_of s).0))
    (below_or_not (start_of r).0 (start_of s).0)

swapped : (t : Day) (r x : RateRow) (f : Option RateRow) → ((start_of r).0 ≡ (start_of x).0 → ⊥) → taken t r (taken t x f) ≡ taken t x (taken t r f)
swapped t r x f z = by (has_started t r) (has_started t x)
  where
    by : (b c : Bool) → pick b (or_later r (pick c (or_later x f) f)) (pick c (or_later x f) f) ≡ pick c (or_later x (pick b (or_later r f) f)) (pick b (or_later r f) f)
    by true true = over_other r x f z
    by true false = refl
    by false true = refl
    by false false = refl

-- F3 and F6, Rates: with a further row, the one in force is that among the new row and the rows before it, whether it
-- supersedes one of them or not
pub force_with : (t : Day) (x : RateRow) (rs : List RateRow) → in_force t (with_row x rs) ≡ in_force t (x ∷ rs)
unfolding in_force with_row
force_with t x [] = refl
force_with t x (r ∷ rs) = by (eqb (start_of r).0 (start_of x).0) refl (force_with t x rs)
  where
    by : (b : Bool) → eqb (start_of r).0 (start_of x).0 ≡ b → in_force t (with_row x rs) ≡ taken t x (in_force t rs) →
        in_force t (pick b (x ∷ rs) (r ∷ with_row x rs)) ≡ taken t x (taken t r (in_force t rs))
    by true q f = sym (superseded t r x (in_force t rs) (eqb-true (start_of r).0 (start_of x).0 q))
    by false q f = ap (taken t r) f ∙ swapped t r x (in_force t rs) (eqb-false (start_of r).0 (start_of x).0 q)

-- F6, Rates; J18, Whole journals: the row in force among those that a book holds is the one in force among all that
-- were entered, the latest of which is at the head
pub force_entered : (t : Day) (xs : List RateRow) → in_force t (entered_rows xs) ≡ in_force t xs
unfolding in_force entered_rows
force_entered t [] = refl
force_entered t (x ∷ xs) = force_with t x (entered_rows xs) ∙ ap (taken t x) (force_entered t xs)

-- ---- which row is in force
-- F6, Rates: if no row is in force, none has started
pub none_started : (t : Day) (rs : List RateRow) → in_force t rs ≡ None → Every (λ r. has_started t r ≡ false) rs
unfolding in_force
none_started t [] e = Every.nobody
none_started t (r ∷ rs) e = by (has_started t r) refl e (none_started t rs)
  where
    by : (b : Bool) → has_started t r ≡ b → pick b (or_later r (in_force t rs)) (in_force t rs) ≡ None →
        (in_force t rs ≡ None → Every (λ s. has_started t s ≡ false) rs) → Every (λ s. has_started t s ≡ false) (r ∷ rs)
    by true q z f = absurd (never (sym (later_set r (in_force t rs)) ∙ ap is_unset z))
    by false q z f = Every.also q (f z)

-- F6, Rates; J18, Whole journals: a row that is in force has started, no row that has started has a greater starting
-- day, and it is the first of the list with its starting day
pub record Greatest (t : Day) (rs : List RateRow) (r : RateRow) : Type 0 where
  pub index : ℕ
  pub within : index < length rs
  pub row : get_or rs index no_row ≡ r
  pub started : has_started t r ≡ true
  pub greatest : (j : ℕ) → j < length rs → has_started t (get_or rs j no_row) ≡ true → (start_of (get_or rs j no_row)).0 ≤ (start_of r).0
  pub first : (j : ℕ) → j < index → (start_of (get_or rs j no_row)).0 ≡ (start_of r).0 → ⊥

-- a row that starts later is ahead of the others; one that does not start later, or has not started, is not
greatest_first : (t : Day) (x : RateRow) (rs : List RateRow) → has_started t x ≡ true →
    ((j : ℕ) → j < length rs → has_started t (get_or rs j no_row) ≡ true → (start_of (get_or rs j no_row)).0 ≤ (start_of x).0) → Greatest t (x ∷ rs) x
greatest_first t x rs q f = record {
  index = 0;
  within = omega arith;
  row = refl;
  started = q;
  greatest = most;
  first = λ j h e. absurd (omega (arith, h));
}
  where
    most : (j : ℕ) → j < length (x ∷ rs) → has_started t (get_or (x ∷ rs) j no_row) ≡ true → (start_of (get_or (x ∷ rs) j no_row)).0 ≤ (start_of x).0
    most zero h s = omega arith
    most (suc j) h s = f j (omega (arith, h)) s

greatest_behind : (t : Day) (x : RateRow) (rs : List RateRow) (r : RateRow) → (has_started t x ≡ true → (start_of x).0 < (start_of r).0) → Greatest t rs r → Greatest t (x ∷ rs) r
greatest_behind t x rs r f g = record {
  index = suc g.index;
  within = omega (arith, g.within);
  row = g.row;
  started = g.started;
  greatest = most;
  first = apart;
}
  where
    most : (j : ℕ) → j < length (x ∷ rs) → has_started t (get_or (x ∷ rs) j no_row) ≡ true → (start_of (get_or (x ∷ rs) j no_row)).0 ≤ (start_of r).0
    most zero h s = omega (arith, f s)
    most (suc j) h s = g.greatest j (omega (arith, h)) s

    apart : (j : ℕ) → j < suc g.index → (start_of (get_or (x ∷ rs) j no_row)).0 ≡ (start_of r).0 → ⊥
    apart zero h e = omega (arith, e, f (same_started t x r e ∙ g.started))
    apart (suc j) h e = g.first j (omega (arith, h)) e

pub in_force_greatest : (t : Day) (rs : List RateRow) (r : RateRow) → in_force t rs ≡ Some r → Greatest t rs r
unfolding in_force or_later
in_force_greatest t [] r e = absurd (never (sym (ap is_unset e)))
in_force_greatest t (x ∷ rs) r e = by (has_started t x) (in_force t rs) refl refl e (in_force_greatest t rs)
  where
    since : {u v : RateRow} → Some u ≡ Some v → u ≡ v
    since q = cc

    by : (b : Bool) (f : Option RateRow) → has_started t x ≡ b → in_force t rs ≡ f → pick b (or_later x f) f ≡ Some r →
        ((s : RateRow) → in_force t rs ≡ Some s → Greatest t rs s) → Greatest t (x ∷ rs) r
    by false f q g z i = greatest_behind t x rs r (λ s. absurd (never (sym q ∙ s))) (i r (g ∙ z))
    by true None q g z i =
        subst (Greatest t (x ∷ rs)) (since z)
        (greatest_first t x rs q (λ j h s. absurd (never (sym (every_at {P = λ y. has_started t y ≡ false} (none_started t rs g) j no_row h) ∙ s))))
    by true (Some s) q g z i =
        ⊎_elim
        (λ (h : (start_of x).0 < (start_of s).0). subst (Greatest t (x ∷ rs)) (since (sym (or_below x s h) ∙ z)) (greatest_behind t x rs s (λ w. h) (i s g)))
        (λ (h : (start_of s).0 ≤ (start_of x).0).
        subst (Greatest t (x ∷ rs)) (since (sym (or_above x s h) ∙ z)) (greatest_first t x rs q (λ j k w. omega (arith, h, (i s g).greatest j k w))))
        (below_or_not (start_of x).0 (start_of s).0)
