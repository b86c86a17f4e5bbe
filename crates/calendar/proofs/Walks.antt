-- The walks from day to day, one day at a time.
use Rattle.std.specs.Prelude.{Some, None}
use Prim.Native.Nat.{ℕ, suc, ◌+◌, ◌-◌, ◌≤◌, ◌<◌}
use native.Mathlib.Omega.{arith}
use mathlib.Core.Path.{◌≡◌, ap}
use mathlib.Core.List.{List}
use Rattle.basics.specs.Choice.{pick}
use Rattle.calendar.specs.declared.Day.{Day}
use Rattle.calendar.specs.Closed.{day, last_day}
use Rattle.calendar.specs.Days.{clearing, next_within, next_after, next_of, nth_from, clearing_within}

module _ (cs : List Day) where
  -- the next clearing day after d is d + 1, or the next after that
  pub next_more : (d : ℕ) → d < last_day → next_after cs (day d) ≡ pick (clearing cs (day (d + 1))) (Some (day (d + 1))) (next_after cs (day (d + 1)))
  unfolding next_after next_within
  next_more d h = let e : last_day - d ≡ suc (last_day - (d + 1)) = omega arith in rw e

  -- after the last day there is none
  pub next_none : (d : ℕ) → last_day ≤ d → next_after cs (day d) ≡ None
  unfolding next_after next_within
  next_none d h = let e : last_day - d ≡ 0 = omega arith in rw e

  -- one day more to count
  pub within_more : (j d : ℕ) → j ≤ d → clearing_within cs j (d + 1 - j) ≡ clearing_within cs j (d - j) + pick (clearing cs (day (d + 1))) 1 0
  unfolding clearing_within
  within_more j d h =
      let e : d + 1 - j ≡ suc (d - j) = omega arith in
      let f : j + suc (d - j) ≡ d + 1 = omega arith in
      rw (e, f)

  pub nth_none : (d : Day) (n : ℕ) → n ≡ 0 → nth_from cs d n ≡ Some d
  unfolding nth_from
  nth_none d n e = rw e

  pub nth_more : (d : Day) (n : ℕ) → 0 < n → nth_from cs d n ≡ next_of cs (nth_from cs d (n - 1))
  unfolding nth_from
  nth_more d n h = let e : n ≡ suc (n - 1) = omega arith in ap (nth_from cs d) e
