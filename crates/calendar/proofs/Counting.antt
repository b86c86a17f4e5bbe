-- The clearing days after a day are the weekdays after it without the closed days among them.
use Prim.Native.Nat.{ℕ, zero, suc, ◌+◌, ◌-◌, ◌*◌, ◌/◌, ◌%◌, ◌≤◌, ◌<◌}
use native.Mathlib.Omega.{arith}
use mathlib.Core.Path.{◌≡◌, refl, sym, ◌∙◌}
use mathlib.Core.Bool.{Bool, true, false, not, ◌&&◌}
use mathlib.Core.Logic.{⊎_elim}
use mathlib.Core.List.{List, [], ◌∷◌, map}
use lib.Dec.{eqb, leb, ltb}
use borrow.Author.Tests.{eqb-true, eqb-false, leb-true, leb-false, le-leb, lt-leb, ltb-true, lt-ltb, eq-eqb, ne_eqb}
use Rattle.basics.specs.Choice.{pick}
use Rattle.basics.proofs.Cases.{below_or_not, and_true}
use Rattle.calendar.specs.declared.Day.{Day}
use Rattle.calendar.specs.declared.ClosedDays.{ClosedDays}
use Rattle.calendar.specs.Closed.{day, last_day, rises_from, listed_days, Rises, among}
use Rattle.calendar.specs.Days.{clearing, clearing_within, age_at, weekdays_to, takes_away, closed_between}

-- five weekdays for each week, and those of the week under way
abbrev by_weeks : ℕ → ℕ
by_weeks n = 5 * (n / 7) + (n % 7 - 1)

-- the weekdays after a day, by weeks
by_weeks_lem : (d k : ℕ) → clearing_within [] d k + by_weeks d ≡ by_weeks (d + k)
unfolding clearing_within clearing among
by_weeks_lem d zero = omega arith
by_weeks_lem d (suc k) = by (leb 2 ((d + suc k) % 7)) refl (by_weeks_lem d k)
  where
    by : (t : Bool) → leb 2 ((d + suc k) % 7) ≡ t → clearing_within [] d k + by_weeks d ≡ by_weeks (d + k) →
        clearing_within [] d k + pick (t && true) 1 0 + by_weeks d ≡ by_weeks (d + suc k)
    by true e h = let a = leb-true 2 ((d + suc k) % 7) e in omega arith
    by false e h = let a = leb-false 2 ((d + suc k) % 7) e in omega arith

-- all weekdays up to a day, by weeks
pub weekdays_by_weeks : (n : ℕ) → weekdays_to n ≡ by_weeks n
unfolding weekdays_to
weekdays_by_weeks n = omega (arith, by_weeks_lem 0 n)

-- without closed days: the weekdays
weekdays_only : (d k : ℕ) → clearing_within [] d k + weekdays_to d ≡ weekdays_to (d + k)
weekdays_only d k = omega (arith, weekdays_by_weeks d, weekdays_by_weeks (d + k), by_weeks_lem d k)

-- the days of a list as numbers
abbrev numbers : List Day → List ℕ
numbers cs = map (λ (c : Day). c.0) cs

-- a day before all days of a rising list is not among them
not_among : (x k : ℕ) (cs : List Day) → rises_from k (numbers cs) ≡ true → x < k → among cs (day x) ≡ false
unfolding rises_from among
not_among x k [] e h = refl
not_among x k (c ∷ cs) e h =
    let p = and_true (leb k c.0) _ e in
    let a = leb-true k c.0 p.0 in
    rw (ne_eqb c.0 x (λ (z : c.0 ≡ x). omega arith)) (not_among x (c.0 + 1) cs (and_true (leb c.0 last_day) _ p.1).1 (omega arith))

-- 1 for a test that holds and 0 for another
abbrev bit : Bool → ℕ
bit t = pick t 1 0

-- whether closed day c takes away a weekday after d up to e
abbrev away : Day → ℕ → ℕ → ℕ
away c d e = bit (takes_away c (day d) (day e))

away_none : (c : Day) (d e : ℕ) → e ≤ d → away c d e ≡ 0
unfolding takes_away
away_none c d e h = by (ltb d c.0) refl
  where
    by : (t : Bool) → ltb d c.0 ≡ t → bit (t && (leb c.0 e && leb 2 (c.0 % 7))) ≡ 0
    by true q = let a = ltb-true d c.0 q in rw (lt-leb c.0 e (omega arith))
    by false q = refl

-- one day more, e, with closed day c and without it
abbrev Passes : Day → List Day → ℕ → ℕ → Type 0
Passes c cs d e = bit (clearing (c ∷ cs) (day e)) + away c d e ≡ bit (clearing cs (day e)) + away c d (e - 1)

-- the day is the closed day
own : (cs : List Day) (d e : ℕ) → among cs (day e) ≡ false → d < e → Passes (day e) cs d e
unfolding takes_away clearing among
own cs d e m h =
    by (leb 2 (e % 7)) (eqb e e) (ltb d e) (leb e e) (leb e (e - 1)) (among cs (day e))
    (eq-eqb e e refl) (lt-ltb d e h) (le-leb e e (omega arith)) (lt-leb e (e - 1) (omega arith)) m
  where
    by : (w t l r s n : Bool) → t ≡ true → l ≡ true → r ≡ true → s ≡ false → n ≡ false →
        bit (w && not (pick t true n)) + bit (l && (r && w)) ≡ bit (w && not n) + bit (l && (s && w))
    by true t l r s n o p q x y = rw (o, p, q, x, y)
    by false t l r s n o p q x y = rw (p, q, x)

-- the day is another
other : (c : Day) (cs : List Day) (d e : ℕ) → (c.0 ≡ e → ⊥) → Passes c cs d e
unfolding takes_away clearing among
other c cs d e z = rw (ne_eqb c.0 e z, same)
  where
    same : leb c.0 e ≡ leb c.0 (e - 1)
    same =
        ⊎_elim
        (λ (l : c.0 < e). le-leb c.0 e (omega arith) ∙ sym (le-leb c.0 (e - 1) (omega arith)))
        (λ (l : e ≤ c.0). lt-leb c.0 e (omega arith) ∙ sym (lt-leb c.0 (e - 1) (omega arith)))
        (below_or_not c.0 e)

-- one closed day more takes away its own day
one_away : (c : Day) (cs : List Day) (d k : ℕ) → among cs c ≡ false → clearing_within (c ∷ cs) d k + away c d (d + k) ≡ clearing_within cs d k
unfolding clearing_within
one_away c cs d zero m = omega (arith, away_none c d (d + 0) (omega arith))
one_away c cs d (suc k) m =
    let e : d + suc k - 1 ≡ d + k = omega arith in
    omega (arith, one_away c cs d k m, rw e at (by (d + suc k) (eqb c.0 (d + suc k)) refl (omega arith)))
  where
    by : (x : ℕ) (t : Bool) → eqb c.0 x ≡ t → d < x → Passes c cs d x
    by x true q h = let z = eqb-true c.0 x q in rw (sym z) (own cs d c.0 m (omega arith))
    by x false q h = other c cs d x (eqb-false c.0 x q)

-- so do all of them, where they rise
counted_weekdays : (cs : List Day) (n d k : ℕ) → rises_from n (numbers cs) ≡ true →
    clearing_within cs d k + closed_between cs (day d) (day (d + k)) + weekdays_to d ≡ weekdays_to (d + k)
unfolding closed_between rises_from
counted_weekdays [] n d k e = omega (arith, weekdays_only d k)
counted_weekdays (c ∷ cs) n d k e =
    let p = and_true (leb n c.0) _ e in
    let r = (and_true (leb c.0 last_day) _ p.1).1 in
    omega (arith, counted_weekdays cs (c.0 + 1) d k r, one_away c cs d k (not_among c.0 (c.0 + 1) cs r (omega arith)))

-- the age, in weekdays
pub age_weekdays : (closed : ClosedDays) (due today : Day) → Rises closed → due.0 ≤ today.0 →
    closed_between (listed_days closed) due today + (age_at (listed_days closed) due today).0 + weekdays_to due.0 ≡ weekdays_to today.0
unfolding age_at Rises
age_weekdays closed due today r h =
    let e : due.0 + (today.0 - due.0) ≡ today.0 = omega arith in
    omega (arith, rw e at (counted_weekdays (listed_days closed) 0 due.0 (today.0 - due.0) r))
