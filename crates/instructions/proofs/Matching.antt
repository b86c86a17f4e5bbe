-- The lowest leg that fits: it fits, and none below it does.
use Prim.Native.Nat.{ℕ, zero, suc, ◌+◌, ◌≤◌, ◌<◌}
use Rattle.std.specs.Prelude.{cond, Some, None}
use Rattle.std.specs.List.{position_from}
use native.Mathlib.Nat.{zero-add}
use native.Mathlib.Omega.{arith}
use native.Mathlib.Numerals.{add-one}
use mathlib.Core.Path.{◌≡◌, refl, sym, ap, ◌∙◌}
use mathlib.Core.Bool.{Bool, true, false, not}
use mathlib.Core.List.{List, [], ◌∷◌}
use lib.Dec.{eqb}
use lib.ListN.{length, get_or, drop, length-take, drop_of_length-le}
use lib.Seq.{drop-cons, get_or-take}
use borrow.Author.Tests.{eqb-true, not-true}
use Rattle.basics.specs.Choice.{pick}
use Rattle.basics.proofs.Cases.{and_true}
use Rattle.amounts.specs.Amounts.{amounts_match}
use Rattle.instructions.specs.declared.Leg.{Leg}
use Rattle.instructions.specs.declared.Legs.{Legs}
use Rattle.instructions.specs.Legs.{most_legs, is_waiting, no_leg, entered, leg_at}
use Rattle.instructions.specs.Match.{delivering, receiving, members_cross, same_business, fits, first_fit, lowest_fit}

-- ---- the search, leg by leg
module _ (s : Legs) (new : Leg) (size : length s.rows ≡ most_legs) (few : s.count ≤ most_legs) where
  -- the legs from leg i on
  pub search_more : (i : ℕ) → i < s.count →
      first_fit new i (drop i (entered s)) ≡ pick (fits (leg_at s i) new) (Some i) (first_fit new (i + 1) (drop (i + 1) (entered s)))
  unfolding first_fit
  search_more i h =
      let l : i < length (entered s) = omega (arith, length-take s.count s.rows) in
      rw (drop-cons (entered s) i no_leg l, get_or-take s.count s.rows i no_leg h, add-one i) (by (fits (leg_at s i) new))
    where
      by : (t : Bool) → cond t (Some i) (position_from (λ l. fits l new) (suc i) (drop (suc i) (entered s)))
          ≡ pick t (Some i) (position_from (λ l. fits l new) (suc i) (drop (suc i) (entered s)))
      by true = refl
      by false = refl

  pub search_end : (i : ℕ) → s.count ≤ i → first_fit new i (drop i (entered s)) ≡ None
  unfolding first_fit
  search_end i h = rw (drop_of_length-le (entered s) {i = i} (omega (arith, length-take s.count s.rows)))

-- ---- what was found
never_both : {A : Type 0} {k : ℕ} → Some k ≡ None → A
never_both e = let z : ◌≡◌ {A = ℕ} 0 1 = cc in absurd (omega arith)

pub record Lowest (new : Leg) (legs : List Leg) (from n : ℕ) : Type 0 where
  pub index : ℕ
  pub place : n ≡ from + index
  pub within : index < length legs
  pub fitting : fits (get_or legs index no_leg) new ≡ true
  pub none_below : (j : ℕ) → j < index → fits (get_or legs j no_leg) new ≡ false

found_from : (new : Leg) (k n : ℕ) (legs : List Leg) → first_fit new k legs ≡ Some n → Lowest new legs k n
unfolding first_fit
found_from new k n [] e = never_both (sym e)
found_from new k n (l ∷ ls) e = by (fits l new) refl e (found_from new (k + 1) n ls)
  where
    by : (t : Bool) → fits l new ≡ t → cond t (Some k) (first_fit new (k + 1) ls) ≡ Some n → (first_fit new (k + 1) ls ≡ Some n → Lowest new ls (k + 1) n) → Lowest new (l ∷ ls) k n
    by true t r f =
        let same : k ≡ n = cc in
        record { index = 0; place = omega arith; within = omega arith; fitting = t; none_below = λ j h. absurd (omega arith) }
    by false t r f =
        let g = f r in
        record { index = suc g.index; place = omega (arith, g.place); within = omega (arith, g.within); fitting = g.fitting; none_below = below t g.none_below }
      where
        below : {m : ℕ} → fits l new ≡ false → ((j : ℕ) → j < m → fits (get_or ls j no_leg) new ≡ false) → (j : ℕ) → j < suc m → fits (get_or (l ∷ ls) j no_leg) new ≡ false
        below t h zero q = t
        below t h (suc j) q = h j (omega arith)

nobody_from : (new : Leg) (k : ℕ) (legs : List Leg) → first_fit new k legs ≡ None → (j : ℕ) → j < length legs → fits (get_or legs j no_leg) new ≡ false
unfolding first_fit
nobody_from new k [] e j h = absurd (omega arith)
nobody_from new k (l ∷ ls) e j h = by (fits l new) refl e (nobody_from new (k + 1) ls) j h
  where
    by : (t : Bool) → fits l new ≡ t → cond t (Some k) (first_fit new (k + 1) ls) ≡ None →
        (first_fit new (k + 1) ls ≡ None → (j : ℕ) → j < length ls → fits (get_or ls j no_leg) new ≡ false) →
        (j : ℕ) → j < suc (length ls) → fits (get_or (l ∷ ls) j no_leg) new ≡ false
    by true t r f j h = never_both r
    by false t r f zero h = t
    by false t r f (suc j) h = f r j (omega arith)

-- the leg found fits the new one, and none below it does
pub lowest_fits : (s : Legs) (new : Leg) (n : ℕ) → lowest_fit s new ≡ Some n → Lowest new (entered s) 0 n
unfolding lowest_fit
lowest_fits s new n e = found_from new 0 n (entered s) e

-- where nobody is found, none fits
pub nobody_fits : (s : Legs) (new : Leg) → lowest_fit s new ≡ None → (j : ℕ) → j < length (entered s) → fits (get_or (entered s) j no_leg) new ≡ false
unfolding lowest_fit
nobody_fits s new e = nobody_from new 0 (entered s) e

-- a leg that was found stands among those entered
pub found_below : (s : Legs) (new : Leg) (n : ℕ) → lowest_fit s new ≡ Some n → (n < s.count) × (fits (leg_at s n) new ≡ true)
found_below s new n e =
    let f = lowest_fits s new n e in
    let p : n ≡ f.index = f.place ∙ zero-add f.index in
    let l : n < s.count = omega (arith, f.within, length-take s.count s.rows) in
    (l, ap (λ (x : Leg). fits x new) (sym (get_or-take s.count s.rows n no_leg l) ∙ ap (λ (k : ℕ). get_or (entered s) k no_leg) p) ∙ f.fitting)

-- ---- what it means to fit
pub record Fitting (l new : Leg) : Type 0 where
  pub waits : is_waiting l.state ≡ true
  pub opposite : eqb l.side new.side ≡ false
  pub member : l.member ≡ new.other
  pub other : l.other ≡ new.member
  pub quantity : l.quantity ≡ new.quantity
  pub day : l.day.0 ≡ new.day.0
  pub amounts : amounts_match (delivering new l).amount (receiving new l).amount ≡ true

-- a leg that fits waits, is of the opposite side, crosses the members, and has the same quantity and day and an amount
-- within the tolerance
pub fits_all : (l new : Leg) → fits l new ≡ true → Fitting l new
unfolding fits
fits_all l new e =
    let w = and_true (is_waiting l.state) _ e in
    let o = and_true (not (eqb l.side new.side)) _ w.1 in
    let c = and_true (members_cross l new) _ o.1 in
    let m = and_true (eqb l.member new.other) _ c.0 in
    let s = and_true (same_business l new) _ c.1 in
    let q = and_true (eqb l.quantity new.quantity) _ s.0 in
    record {
      waits = w.0;
      opposite = not-true _ o.0;
      member = eqb-true l.member new.other m.0;
      other = eqb-true l.other new.member m.1;
      quantity = eqb-true l.quantity new.quantity q.0;
      day = eqb-true l.day.0 new.day.0 q.1;
      amounts = s.1;
    }
