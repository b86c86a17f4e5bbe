-- The list of closed days, day by day.
use Prim.Native.Nat.{ℕ, ◌+◌, ◌≤◌, ◌<◌}
use native.Mathlib.Omega.{arith}
use native.Mathlib.Numerals.{add-one}
use mathlib.Core.Path.{◌≡◌, refl, sym, ap, ◌∙◌}
use mathlib.Core.Bool.{Bool, true, false, cond, ◌&&◌, ◌||◌}
use mathlib.Core.List.{List, [], ◌∷◌, ◌++◌, map, map-append}
use lib.Dec.{leb}
use Rattle.std.specs.Prelude.{nat_eq, count_by}
use Rattle.std.specs.List.{list_any}
use Rattle.std.proofs.lemmas.List.Recursion.{is_count_by}
use Rattle.basics.specs.Choice.{pick}
use lib.ListN.{length, get_or, set, take, drop, length-map, drop_of_length-le}
use lib.Seq.{drop-cons, take-suc, take_all, length-take-le}
use Rattle.basics.specs.Lists.{padded}
use Rattle.basics.proofs.Places.{padded_more, padded_front}
use Rattle.calendar.specs.declared.Day.{Day}
use Rattle.calendar.specs.Closed.{day, last_day, most_closed, rises_from, closed_days, listed_days, Rises, among}
use Rattle.calendar.specs.Days.{takes_away, closed_between}

-- ---- rising
-- the list from place i on
pub rises_more : (k i : ℕ) (ds : List ℕ) → i < length ds →
    rises_from k (drop i ds) ≡ (leb k (get_or ds i 0) && (leb (get_or ds i 0) last_day && rises_from (get_or ds i 0 + 1) (drop (i + 1) ds)))
unfolding rises_from
rises_more k i ds h = rw (add-one i, drop-cons ds i 0 h)

pub rises_end : (k i : ℕ) (ds : List ℕ) → length ds ≤ i → rises_from k (drop i ds) ≡ true
unfolding rises_from
rises_end k i ds h = rw (drop_of_length-le ds {i = i} h)

-- ---- the days of a list, stored one after another
pub stored_more : (ds : List ℕ) (i : ℕ) (days : List Day) → length ds ≤ most_closed → i < length ds → days ≡ padded most_closed (day 0) (map day (take i ds)) →
    set days i (day (get_or ds i 0)) ≡ padded most_closed (day 0) (map day (take (i + 1) ds))
stored_more ds i days most h e =
    let l : length (map day (take i ds)) ≡ i = length-map (take i ds) day ∙ length-take-le i ds (omega arith) in
    let m : map day (take i ds) ++ day (get_or ds i 0) ∷ [] ≡ map day (take (i + 1) ds) =
    rw (add-one i, take-suc ds i 0 h) (sym (map-append day (take i ds) (get_or ds i 0 ∷ []))) in
    rw e (
    ap (λ (n : ℕ). set (padded most_closed (day 0) (map day (take i ds))) n (day (get_or ds i 0))) (sym l)
    ∙ padded_more most_closed (day 0) (day (get_or ds i 0)) (map day (take i ds)) (omega arith)
    ∙ ap (padded most_closed (day 0)) m
    )

pub stored_all : (ds : List ℕ) (i : ℕ) (days : List Day) → length ds ≤ i → days ≡ padded most_closed (day 0) (map day (take i ds)) →
    record { days = days; count = length ds } ≡ closed_days ds
unfolding closed_days
stored_all ds i days k e = rw (e, take_all i ds k) refl

-- ---- the closed days of a list
numbers_back : (ds : List ℕ) → map (λ (d : Day). d.0) (map day ds) ≡ ds
numbers_back [] = refl
numbers_back (d ∷ ds) = ap (λ (l : List ℕ). d ∷ l) (numbers_back ds)

-- they rise where the list does
pub given_rises : (ds : List ℕ) → rises_from 0 ds ≡ true → Rises (closed_days ds)
unfolding Rises closed_days listed_days
given_rises ds h =
    let e : take (length ds) (padded most_closed (day 0) (map day ds)) ≡ map day ds =
    ap (λ (n : ℕ). take n (padded most_closed (day 0) (map day ds))) (sym (length-map ds day)) ∙ padded_front most_closed (day 0) (map day ds) in
    rw (e, numbers_back ds) h

-- ---- the list's own methods
-- a day is among the closed days where one of them is the same
pub among_any : (cs : List Day) (d : Day) → among cs d ≡ list_any (λ (c : Day). nat_eq c.0 d.0) cs
unfolding among
among_any [] d = refl
among_any (c ∷ cs) d = by (nat_eq c.0 d.0) (among_any cs d)
  where
    by : (t : Bool) → among cs d ≡ list_any (λ (c : Day). nat_eq c.0 d.0) cs → pick t true (among cs d) ≡ (t || list_any (λ (c : Day). nat_eq c.0 d.0) cs)
    by true e = refl
    by false e = e

-- the closed days that an age leaves out are those that pass a test
pub between_count : (cs : List Day) (after to : Day) → closed_between cs after to ≡ count_by (λ (c : Day). takes_away c after to) cs
unfolding closed_between
between_count cs after to = is_count_by (λ (ds : List Day). closed_between ds after to) (λ (c : Day). takes_away c after to) refl (λ (c : Day) (ds : List Day). by (takes_away c after to) (closed_between ds after to)) cs
  where
    by : (t : Bool) (n : ℕ) → pick t 1 0 + n ≡ cond t (1 + n) n
    by true n = refl
    by false n = omega arith
