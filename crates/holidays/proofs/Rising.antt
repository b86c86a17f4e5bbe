-- The closed days rise, within a year and over years, and none is above 65,535 up to 2178.
use Prim.Native.Nat.{ℕ, zero, suc, ◌+◌, ◌-◌, ◌*◌, ◌%◌, ◌≤◌, ◌<◌}
use native.Mathlib.Nat.{add-zero}
use native.Mathlib.Numerals.{add-one}
use native.Mathlib.Omega.{arith}
use mathlib.Core.Path.{◌≡◌, refl, sym, ap, ◌∙◌}
use mathlib.Core.Bool.{true}
use mathlib.Core.List.{List, [], ◌∷◌, ◌++◌, append-nil, append_assoc}
use lib.ListN.{length, length-append}
use lib.Seq.{sets}
use borrow.Author.Tests.{le-leb}
use Rattle.basics.specs.Lists.{Every, Sorted}
use Rattle.basics.specs.Lists.Every.{nobody, also}
use Rattle.basics.specs.Lists.Sorted.{empty, ahead}
use Rattle.basics.proofs.Everywhere.{every_map}
use Rattle.basics.proofs.Stores.{sets_append}
use Rattle.calendar.specs.Closed.{last_day, rises_from}
use Rattle.holidays.specs.Years.{first_year, new_year, date_of}
use Rattle.holidays.specs.Easter.{easter}
use Rattle.holidays.specs.Target.{good_friday, easter_monday, closed_in_year, closed_from, last_year}
use Rattle.holidays.proofs.Years.{dates, begins_early}
use Rattle.holidays.proofs.Moons.{easter_sunday, after_march}

-- ---- days that climb
-- the days of a list are k or later, each is above the one before it, and all of them are below m
pub data Climbs : ℕ → List ℕ → ℕ → Type 0 where
  ended : {k m : ℕ} → k ≤ m → Climbs k [] m
  up : {k m : ℕ} (d : ℕ) {ds : List ℕ} → k ≤ d → Climbs (d + 1) ds m → Climbs k (d ∷ ds) m

-- they also climb from any earlier day on
climbs_from : {j k m : ℕ} {ds : List ℕ} → j ≤ k → Climbs k ds m → Climbs j ds m
climbs_from {j} {k} {m} h (ended l) = ended {k = j} {m = m} (omega arith)
climbs_from {j} h (up d l c) = up {k = j} d (omega arith) c

-- others that climb from m on may follow
climbs_on : {k m n : ℕ} {xs ys : List ℕ} → Climbs k xs m → Climbs m ys n → Climbs k (xs ++ ys) n
climbs_on (ended l) e = climbs_from l e
climbs_on (up d l c) e = up d l (climbs_on c e)

climbs_span : {k m : ℕ} {ds : List ℕ} → Climbs k ds m → k ≤ m
climbs_span (ended l) = l
climbs_span (up d l c) = omega (arith, climbs_span c)

climbs_below : {k m : ℕ} {ds : List ℕ} → Climbs k ds m → Every (λ d. d < m) ds
climbs_below (ended l) = nobody
climbs_below (up d l c) = also {x = d} (omega (arith, climbs_span c)) (climbs_below c)

climbs_later : {k m : ℕ} {ds : List ℕ} → Climbs k ds m → Every (λ d. k ≤ d) ds
climbs_later (ended l) = nobody
climbs_later (up d l c) = also l (every_map (λ (x : ℕ) (n : d + 1 ≤ x). less n l) (climbs_later c))
  where
    less : {a b x : ℕ} → b + 1 ≤ x → a ≤ b → a ≤ x
    less n l = omega arith

-- each of them is below every day that comes after it
climbs_sorted : {k m : ℕ} {ds : List ℕ} → Climbs k ds m → Sorted (λ d e. d < e) ds
climbs_sorted (ended l) = empty
climbs_sorted (up d l c) = ahead {x = d} (every_map (λ (x : ℕ) (n : d + 1 ≤ x). omega arith) (climbs_later c)) (climbs_sorted c)

-- a list of closed days may have them if none is above 65,535
climbs_rise : {k m : ℕ} {ds : List ℕ} → Climbs k ds m → Every (λ d. d ≤ last_day) ds → rises_from k ds ≡ true
unfolding rises_from
climbs_rise (ended l) nobody = refl
climbs_rise {k} (up d l c) (also n ns) = rw (le-leb k d l, le-leb d last_day n) (climbs_rise c ns)

-- ---- the closed days of a year
-- Good Friday is a Friday, and Easter Monday is a Monday
pub friday : (y : ℕ) → first_year ≤ y → good_friday y % 7 ≡ 6
unfolding good_friday
friday y h = omega (arith, (easter_sunday y).sunday, (after_march y h).0)

pub monday : (y : ℕ) → easter_monday y % 7 ≡ 2
unfolding easter_monday
monday y = omega (arith, (easter_sunday y).sunday)

-- a year has six closed days
pub six_days : (y : ℕ) → length (closed_in_year y) ≡ 6
unfolding closed_in_year
six_days y = refl

module _ (y : ℕ) (h : first_year ≤ y) where
  -- as code has them, by the first day of the year, 1 March and Easter
  pub by_march : (january march sunday : ℕ) → january ≡ new_year y → march ≡ date_of y 3 1 → sunday ≡ easter y →
      january ∷ (sunday - 2) ∷ (sunday + 1) ∷ (march + 61) ∷ (march + 299) ∷ (march + 300) ∷ [] ≡ closed_in_year y
  unfolding closed_in_year good_friday easter_monday
  by_march january march sunday e f g =
      let d = dates y h in rw (e, f, g, d.january, d.may, d.december_25, d.december_26)

  -- they climb from the first day of the year to that of the next
  year_climbs : Climbs (new_year y) (closed_in_year y) (new_year (y + 1))
  unfolding closed_in_year good_friday easter_monday
  year_climbs =
      let d = dates y h in
      let span = after_march y h in
      let january : new_year y ≤ date_of y 1 1 = omega (arith, d.january) in
      let friday : date_of y 1 1 + 1 ≤ easter y - 2 = omega (arith, d.january, d.february) in
      let monday : easter y - 2 + 1 ≤ easter y + 1 = omega arith in
      let may : easter y + 1 + 1 ≤ date_of y 5 1 = omega (arith, d.may) in
      let christmas : date_of y 5 1 + 1 ≤ date_of y 12 25 = omega (arith, d.may, d.december_25) in
      let second : date_of y 12 25 + 1 ≤ date_of y 12 26 = omega (arith, d.december_25, d.december_26) in
      let over : date_of y 12 26 + 1 ≤ new_year (y + 1) = omega (arith, d.december_26, d.next) in
      up (date_of y 1 1) january
      (up (easter y - 2) friday
      (up (easter y + 1) monday
      (up (date_of y 5 1) may
      (up (date_of y 12 25) christmas
      (up (date_of y 12 26) second (ended over))))))

-- ---- the closed days of several years
-- there are six for each year
pub closed_length : (y n : ℕ) → length (closed_from y n) ≡ 6 * n
unfolding closed_from
closed_length y zero = refl
closed_length y (suc n) = omega (arith, length-append (closed_in_year y) (closed_from (y + 1) n), six_days y, closed_length (y + 1) n)

-- with one year more, its closed days come after those of the others
pub closed_more : (y n : ℕ) → closed_from y (suc n) ≡ closed_from y n ++ closed_in_year (y + n)
unfolding closed_from
closed_more y zero = append-nil (closed_in_year y) ∙ ap closed_in_year (sym (add-zero y))
closed_more y (suc n) =
    let same : y + 1 + n ≡ y + suc n = omega arith in
    ap (λ (l : List ℕ). closed_in_year y ++ l) (closed_more (y + 1) n ∙ ap (λ (x : ℕ). closed_from (y + 1) n ++ closed_in_year x) same)
    ∙ sym (append_assoc (closed_in_year y) (closed_from (y + 1) n) (closed_in_year (y + suc n)))

-- they are stored year after year
pub stored_more : (ws : List ℕ) (y i : ℕ) → sets (sets ws 0 (closed_from y i)) (6 * i) (closed_in_year (y + i)) ≡ sets ws 0 (closed_from y (i + 1))
stored_more ws y i =
    let at : 6 * i ≡ 0 + length (closed_from y i) = omega (arith, closed_length y i) in
    ap (λ (k : ℕ). sets (sets ws 0 (closed_from y i)) k (closed_in_year (y + i))) at
    ∙ sym (ap (sets ws 0) (ap (closed_from y) (add-one i) ∙ closed_more y i) ∙ sets_append ws 0 (closed_from y i) (closed_in_year (y + i)))

-- they climb from the first day of the first year to that of the year after the last
climbing : (y n : ℕ) → first_year ≤ y → Climbs (new_year y) (closed_from y n) (new_year (y + n))
unfolding closed_from
climbing y zero h = let same : new_year y ≤ new_year (y + 0) = omega (arith, ap new_year (add-zero y)) in ended same
climbing y (suc n) h =
    let same : y + 1 + n ≡ y + suc n = omega arith in
    climbs_on (year_climbs y h) (rw same at (climbing (y + 1) n (omega arith)))

-- so they rise strictly, within a year and over years
pub closed_rise : (y n : ℕ) → first_year ≤ y → Sorted (λ d e. d < e) (closed_from y n)
closed_rise y n h = climbs_sorted (climbing y n h)

-- none of them is above 65,535 if the last year is 2178 or earlier
pub closed_most : (y n : ℕ) → first_year ≤ y → y + n ≤ last_year + 1 → Every (λ d. d ≤ last_day) (closed_from y n)
closed_most y n h l =
    let early = begins_early (y + n) (omega arith) l in
    every_map (λ (d : ℕ) (m : d < new_year (y + n)). omega arith) (climbs_below (climbing y n h))

-- so a list of closed days may have them
pub closed_taken : (y n : ℕ) → first_year ≤ y → y + n ≤ last_year + 1 → rises_from 0 (closed_from y n) ≡ true
closed_taken y n h l = climbs_rise (climbs_from (omega arith) (climbing y n h)) (closed_most y n h l)
