-- The legs by the events: which leg a number names, and whether it waits.
use Rattle.std.specs.Prelude.{Option, None, Some}
use Prim.Native.Nat.{ℕ, zero, suc, ◌+◌, ◌-◌, ◌<◌}
use native.Mathlib.Omega.{arith}
use mathlib.Core.Path.{◌≡◌, refl, sym, ap, ◌∙◌}
use mathlib.Core.Bool.{Bool, true, false, ◌&&◌, not}
use mathlib.Core.List.{List, [], ◌∷◌, ◌++◌}
use lib.Dec.{eqb, ltb}
use lib.ListN.{length, get_or, set, length-append, length-set}
use lib.Seq.{get_or-set_same, get_or-set_other, get_or_at}
use borrow.Author.Tests.{eqb-true, eqb-false, ne_eqb, ltb-true, ltb-false, lt-ltb, le-ltb}
use Rattle.basics.specs.Choice.{pick}
use Rattle.instructions.specs.declared.Leg.{Leg}
use Rattle.instructions.specs.declared.LegState.{LegState}
use Rattle.instructions.specs.declared.LegState.TheVariants.{Waiting, Withdrawn, Matched}
use Rattle.instructions.specs.Legs.{is_waiting, no_leg, in_state}
use Rattle.instructions.specs.Match.{Fit, first_fit}
use Rattle.journal.specs.Sums.{or_else}
use Rattle.journal.specs.Facts.{LegChange, enters, withdraws, neither}
use Rattle.journal.specs.History.{leg_into_state, legs_with, legs_after, entered_as, is_fit, waits_after}

-- ---- legs of a list
-- leg n of these as it was instructed
abbrev pub leg_of : ℕ → List Leg → Option Leg
leg_of n ls = pick (ltb n (length ls)) (Some (in_state Waiting (get_or ls n no_leg))) None

-- whether leg n of these waits; where there is none, none waits
abbrev pub waits_of : ℕ → List Leg → Bool
waits_of n ls = is_waiting (get_or ls n no_leg).state

-- what an Enter's obligation says of the leg that fits
abbrev pub Says : ℕ → ℕ → Fit → Type 0
Says obligation count None = obligation ≡ 0
Says obligation count (Some k) = (k < count) × (obligation ≡ 0 → ⊥)

-- what a change says is so of these legs: an entered leg is numbered next, a withdrawn one is there
abbrev pub Proper : LegChange → List Leg → Type 0
Proper (enters leg obligation new) ls = (leg ≡ length ls) × (in_state Waiting new ≡ new) × (Says obligation (length ls) (first_fit new 0 ls))
Proper (withdraws k) ls = k < length ls
Proper neither ls = Unit {0}

-- ---- one leg in another state
module _ (ls : List Leg) (k : ℕ) (state : LegState) (h : k < length ls) where
  abbrev other : Leg
  other = in_state state (get_or ls k no_leg)

  -- it is the same instruction
  state_leg : (n : ℕ) → leg_of n (leg_into_state k state ls) ≡ leg_of n ls
  state_leg n = rw (length-set ls k other) (by (eqb n k) refl)
    where
      by : (t : Bool) → eqb n k ≡ t → pick (ltb n (length ls)) (Some (in_state Waiting (get_or (set ls k other) n no_leg))) None ≡ leg_of n ls
      by true e = rw (eqb-true n k e, get_or-set_same ls k other no_leg h)
      by false e = rw (get_or-set_other ls k n other no_leg (eqb-false n k e))

  -- it does not wait, and the others are as they were
  state_waits : is_waiting state ≡ false → (n : ℕ) → waits_of n (leg_into_state k state ls) ≡ (not (eqb k n) && waits_of n ls)
  state_waits q n = by (eqb k n) refl
    where
      by : (t : Bool) → eqb k n ≡ t → waits_of n (set ls k other) ≡ (not t && waits_of n ls)
      by true e = rw (← eqb-true k n e, get_or-set_same ls k other no_leg h) q
      by false e = rw (get_or-set_other ls k n other no_leg (λ z. eqb-false k n e (sym z)))

-- ---- one leg more
snoc_other : (ls : List Leg) (new : Leg) (n : ℕ) → (n ≡ length ls → ⊥) → get_or (ls ++ new ∷ []) n no_leg ≡ get_or ls n no_leg
snoc_other [] new zero h = absurd (h refl)
snoc_other [] new (suc n) h = refl
snoc_other (l ∷ ls) new zero h = refl
snoc_other (l ∷ ls) new (suc n) h = snoc_other ls new n (λ e. h (ap suc e))

module _ (ls : List Leg) (new : Leg) where
  more_length : length (ls ++ new ∷ []) ≡ length ls + 1
  more_length = length-append ls (new ∷ [])

  more_leg : (n : ℕ) → leg_of n (ls ++ new ∷ []) ≡ or_else (pick (eqb (length ls) n) (Some (in_state Waiting new)) None) (leg_of n ls)
  more_leg n = rw more_length (by (eqb (length ls) n) refl)
    where
      below : (n ≡ length ls → ⊥) → ltb n (length ls + 1) ≡ ltb n (length ls)
      below z = under (ltb n (length ls)) refl
        where
          under : (t : Bool) → ltb n (length ls) ≡ t → ltb n (length ls + 1) ≡ t
          under true e = lt-ltb n (length ls + 1) (omega (arith, ltb-true n (length ls) e))
          under false e = le-ltb n (length ls + 1) (omega (arith, ltb-false n (length ls) e, z))

      by : (t : Bool) → eqb (length ls) n ≡ t →
          pick (ltb n (length ls + 1)) (Some (in_state Waiting (get_or (ls ++ new ∷ []) n no_leg))) None ≡ or_else (pick t (Some (in_state Waiting new)) None) (leg_of n ls)
      by true e =
          let q = eqb-true (length ls) n e in
          rw (lt-ltb n (length ls + 1) (omega arith), get_or_at ls new [] no_leg n q)
      by false e =
          let q : n ≡ length ls → ⊥ = λ z. eqb-false (length ls) n e (sym z) in
          rw (below q, snoc_other ls new n q)

  more_waits : (n : ℕ) → waits_of n (ls ++ new ∷ []) ≡ pick (eqb (length ls) n) (is_waiting new.state) (waits_of n ls)
  more_waits n = by (eqb (length ls) n) refl
    where
      by : (t : Bool) → eqb (length ls) n ≡ t → waits_of n (ls ++ new ∷ []) ≡ pick t (is_waiting new.state) (waits_of n ls)
      by true e = rw (get_or_at ls new [] no_leg n (eqb-true (length ls) n e))
      by false e = rw (snoc_other ls new n (λ z. eqb-false (length ls) n e (sym z)))

-- ---- a change of legs
module _ (leg obligation : ℕ) (new : Leg) (ls : List Leg) (number : leg ≡ length ls) (fresh : in_state Waiting new ≡ new) where
  -- an Enter, by the leg that fits
  with_leg_lem : (r : Fit) → Says obligation (length ls) r → (n : ℕ) →
      leg_of n (legs_with new obligation r ls) ≡ or_else (pick (eqb leg n) (Some new) None) (leg_of n ls)
  with_leg_lem None s n = more_leg ls new n ∙ rw (number, fresh)
  with_leg_lem (Some k) s n =
      let state = Matched (obligation - 1) in
      let size : length (leg_into_state k state ls) ≡ length ls = length-set ls k (in_state state (get_or ls k no_leg)) in
      more_leg (leg_into_state k state ls) (in_state state new) n
      ∙ rw (state_leg ls k state s.0 n, size, number, fresh)

  with_waits : (r : Fit) → Says obligation (length ls) r → (n : ℕ) →
      waits_of n (legs_with new obligation r ls) ≡ pick (eqb leg n) (eqb obligation 0) (not (is_fit n r) && waits_of n ls)
  with_waits None s n =
      let waits : is_waiting new.state ≡ true = ap (λ (l : Leg). is_waiting l.state) (sym fresh) in
      more_waits ls new n ∙ rw (number, s, waits)
  with_waits (Some k) s n =
      let state = Matched (obligation - 1) in
      let size : length (leg_into_state k state ls) ≡ length ls = length-set ls k (in_state state (get_or ls k no_leg)) in
      more_waits (leg_into_state k state ls) (in_state state new) n
      ∙ rw (size, number, state_waits ls k state s.0 refl n, ne_eqb obligation 0 s.1)

pub change_leg : (c : LegChange) (ls : List Leg) → Proper c ls → (n : ℕ) → leg_of n (legs_after c ls) ≡ or_else (entered_as n c) (leg_of n ls)
change_leg (enters leg obligation new) ls p n = with_leg_lem leg obligation new ls p.0 p.1 (first_fit new 0 ls) p.2 n
change_leg (withdraws k) ls p n = state_leg ls k Withdrawn p n
change_leg neither ls p n = refl

pub change_waits : (c : LegChange) (ls : List Leg) → Proper c ls → (n : ℕ) → waits_of n (legs_after c ls) ≡ waits_after n c ls (waits_of n ls)
change_waits (enters leg obligation new) ls p n = with_waits leg obligation new ls p.0 p.1 (first_fit new 0 ls) p.2 n
change_waits (withdraws k) ls p n = state_waits ls k Withdrawn p refl n
change_waits neither ls p n = refl
