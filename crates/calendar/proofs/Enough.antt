-- There are clearing days enough: 64 closed days and all weekends leave every last day on the calendar.
use Rattle.std.specs.Prelude.{Some}
use Prim.Native.Nat.{ℕ, zero, suc, ◌+◌, ◌-◌, ◌*◌, ◌%◌, ◌≤◌, ◌<◌}
use native.Mathlib.Omega.{arith}
use mathlib.Core.Path.{◌≡◌, refl}
use mathlib.Core.Bool.{Bool, true, false, not, ◌&&◌}
use mathlib.Core.List.{List, [], ◌∷◌}
use lib.Dec.{eqb, leb}
use lib.ListN.{length}
use borrow.Author.Tests.{eqb-true, eqb-false, leb-true, leb-false}
use Rattle.basics.specs.Choice.{pick}
use Rattle.calendar.specs.declared.Day.{Day}
use Rattle.calendar.specs.Closed.{day, last_day, most_closed, among}
use Rattle.calendar.specs.Days.{clearing_days, clearing, clearing_within, nth_after}
use Rattle.calendar.proofs.Ages.{nth_exists}

-- 1 for a clearing day and 0 for another
abbrev one : List Day → ℕ → ℕ
one cs x = pick (clearing cs (day x)) 1 0

-- one closed day more takes away that day at most
one_closed : (c : Day) (cs : List Day) (x : ℕ) → (one cs x ≤ one (c ∷ cs) x + 1) × ((c.0 ≡ x → ⊥) → one cs x ≤ one (c ∷ cs) x)
unfolding clearing among
one_closed c cs x = by (leb 2 (x % 7)) (eqb c.0 x) refl (among cs (day x))
  where
    by : (w t : Bool) → eqb c.0 x ≡ t → (m : Bool) →
        (pick (w && not m) 1 0 ≤ pick (w && not (pick t true m)) 1 0 + 1)
        × ((c.0 ≡ x → ⊥) → pick (w && not m) 1 0 ≤ pick (w && not (pick t true m)) 1 0)
    by false t e m = (omega arith, λ h. omega arith)
    by true true e false = (omega arith, λ h. absurd (h (eqb-true c.0 x e)))
    by true true e true = (omega arith, λ h. omega arith)
    by true false e m = (omega arith, λ h. omega arith)

-- so does it over k days: none where it lies after them, else one
abbrev Costs : Day → List Day → ℕ → ℕ → Type 0
Costs c cs d k =
    (clearing_within cs d k ≤ clearing_within (c ∷ cs) d k + 1)
    × (d + k < c.0 → clearing_within cs d k ≤ clearing_within (c ∷ cs) d k)

closed_costs : (c : Day) (cs : List Day) (d k : ℕ) → Costs c cs d k
unfolding clearing_within
closed_costs c cs d zero = (omega arith, λ h. omega arith)
closed_costs c cs d (suc k) = (
  by (eqb c.0 (d + suc k)) refl (closed_costs c cs d k),
  λ h. omega (arith, (closed_costs c cs d k).1 (omega arith), (one_closed c cs (d + suc k)).1 (λ z. omega arith)),
)
  where
    by : (t : Bool) → eqb c.0 (d + suc k) ≡ t → Costs c cs d k →
        clearing_within cs d k + one cs (d + suc k) ≤ clearing_within (c ∷ cs) d k + one (c ∷ cs) (d + suc k) + 1
    by true e h = omega (arith, h.1 (omega (arith, eqb-true c.0 (d + suc k) e)), (one_closed c cs (d + suc k)).0)
    by false e h = omega (arith, h.0, (one_closed c cs (d + suc k)).1 (eqb-false c.0 (d + suc k) e))

-- closed days take away at most as many clearing days as they are
all_cost : (cs : List Day) (d k : ℕ) → clearing_within [] d k ≤ clearing_within cs d k + length cs
all_cost [] d k = omega arith
all_cost (c ∷ cs) d k = omega (arith, all_cost cs d k, (closed_costs c cs d k).0)

-- a weekend has two days, so of k days at least (k - 2) / 7 are weekdays; here with the days of a weekend that has begun
weekdays : (d k : ℕ) → k ≤ 7 * clearing_within [] d k + pick (leb 2 ((d + k) % 7)) 0 ((d + k) % 7 + 1)
unfolding clearing_within clearing among
weekdays d zero = omega arith
weekdays d (suc k) = by (leb 2 ((d + k) % 7)) refl (leb 2 ((d + suc k) % 7)) refl (weekdays d k)
  where
    by : (t : Bool) → leb 2 ((d + k) % 7) ≡ t → (u : Bool) → leb 2 ((d + suc k) % 7) ≡ u →
        k ≤ 7 * clearing_within [] d k + pick t 0 ((d + k) % 7 + 1) →
        suc k ≤ 7 * (clearing_within [] d k + pick (u && true) 1 0) + pick u 0 ((d + suc k) % 7 + 1)
    by true e true f h = omega arith
    by true e false f h = let a = leb-true 2 ((d + k) % 7) e in let b = leb-false 2 ((d + suc k) % 7) f in omega arith
    by false e true f h = let a = leb-false 2 ((d + k) % 7) e in omega arith
    by false e false f h = let a = leb-false 2 ((d + k) % 7) e in let b = leb-false 2 ((d + suc k) % 7) f in omega arith

-- B3, Buy-in, and R11, Refusals: for a J up to 60,000 the 36th clearing day after it exists, and so does each before it
pub last_day_exists : (cs : List Day) (j : Day) (n : ℕ) → length cs ≤ most_closed → j.0 ≤ 60000 → n ≤ 36 →
    (e : Day) × (nth_after cs j (clearing_days n) ≡ Some e)
last_day_exists cs j n h k m =
    nth_exists cs j n (omega arith) (omega (arith, all_cost cs j.0 (last_day - j.0), weekdays j.0 (last_day - j.0), rest (leb 2 ((j.0 + (last_day - j.0)) % 7))))
  where
    rest : (t : Bool) → pick t 0 ((j.0 + (last_day - j.0)) % 7 + 1) ≤ 7
    rest true = omega arith
    rest false = omega arith
