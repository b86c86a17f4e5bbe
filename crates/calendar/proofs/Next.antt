-- What the next clearing day is: later, a clearing day, and the first such.
use Rattle.std.specs.Prelude.{Some, None}
use Prim.Native.Nat.{ℕ, zero, suc, ◌+◌, ◌-◌, ◌≤◌, ◌<◌}
use native.Mathlib.Omega.{arith}
use mathlib.Core.Path.{◌≡◌, refl, ap}
use mathlib.Core.Bool.{Bool, true, false}
use mathlib.Core.Logic.{⊎_elim}
use mathlib.Core.List.{List}
use Rattle.basics.specs.Choice.{pick}
use Rattle.basics.proofs.Cases.{below_or_not}
use Rattle.calendar.specs.declared.Day.{Day}
use Rattle.calendar.specs.Closed.{day, last_day}
use Rattle.calendar.specs.Days.{clearing, next_within, next_after}

-- no day after d up to e is a clearing day
abbrev pub NoneUpTo : List Day → ℕ → ℕ → Type 0
NoneUpTo cs d e = (x : ℕ) → d < x → x ≤ e → clearing cs (day x) ≡ false

-- e is the first clearing day after d
pub record FirstAfter (cs : List Day) (d e : ℕ) : Type 0 where
  pub later : d < e
  pub clears : clearing cs (day e) ≡ true
  pub first : NoneUpTo cs d (e - 1)

module _ (cs : List Day) where
  -- the first day after d is not a clearing day: the rest follows from the days after it
  none_more : (d e : ℕ) → clearing cs (day (d + 1)) ≡ false → NoneUpTo cs (d + 1) e → NoneUpTo cs d e
  none_more d e q h x l m =
      ⊎_elim (λ (z : x < d + 2). let n : x ≡ d + 1 = omega arith in rw n q) (λ (z : d + 2 ≤ x). h x (omega arith) m) (below_or_not x (d + 2))

  within_at : (k d e : ℕ) → next_within cs k d ≡ Some (day e) → FirstAfter cs d e × (e ≤ d + k)
  unfolding next_within
  within_at zero d e q = let z : ◌≡◌ {A = ℕ} 0 1 = cc in absurd (omega arith)
  within_at (suc k) d e q = by (clearing cs (day (d + 1))) refl q (within_at k (d + 1) e)
    where
      by : (t : Bool) → clearing cs (day (d + 1)) ≡ t → pick t (Some (day (d + 1))) (next_within cs k (d + 1)) ≡ Some (day e) →
          (next_within cs k (d + 1) ≡ Some (day e) → FirstAfter cs (d + 1) e × (e ≤ d + 1 + k)) → FirstAfter cs d e × (e ≤ d + suc k)
      by true t r f =
          let s : day (d + 1) ≡ day e = cc in
          let n : d + 1 ≡ e = ap (λ (x : Day). x.0) s in
          (record { later = omega arith; clears = rw n at t; first = λ x l m. absurd (omega arith) }, omega arith)
      by false t r f =
          let g = f r in
          (record { later = omega (arith, g.0.later); clears = g.0.clears; first = none_more d (e - 1) t g.0.first }, omega (arith, g.1))

  within_never : (k d : ℕ) → next_within cs k d ≡ None → NoneUpTo cs d (d + k)
  unfolding next_within
  within_never zero d q = λ x l m. absurd (omega arith)
  within_never (suc k) d q = by (clearing cs (day (d + 1))) refl q (within_never k (d + 1))
    where
      by : (t : Bool) → clearing cs (day (d + 1)) ≡ t → pick t (Some (day (d + 1))) (next_within cs k (d + 1)) ≡ None →
          (next_within cs k (d + 1) ≡ None → NoneUpTo cs (d + 1) (d + 1 + k)) → NoneUpTo cs d (d + suc k)
      by true t r f = let z : ◌≡◌ {A = ℕ} 0 1 = cc in absurd (omega arith)
      by false t r f = none_more d (d + suc k) t (λ x l m. f r x l (omega arith))

  -- the next clearing day is later, is a clearing day and the first such, and is no later than the last day
  pub next_at : (d e : Day) → next_after cs d ≡ Some e → FirstAfter cs d.0 e.0 × (e.0 ≤ last_day)
  unfolding next_after
  next_at d e q =
      let g = within_at (last_day - d.0) d.0 e.0 q in
      (g.0, past g.0.later g.1)
    where
      past : d.0 < e.0 → e.0 ≤ d.0 + (last_day - d.0) → e.0 ≤ last_day
      past l m = omega arith

  -- where there is none, no day up to the last is a clearing day
  pub next_never : (d : Day) → next_after cs d ≡ None → NoneUpTo cs d.0 last_day
  unfolding next_after
  next_never d q = λ x l m. within_never (last_day - d.0) d.0 q x l (omega arith)
