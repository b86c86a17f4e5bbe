-- The refusals of Rate.
use Prim.Native.Nat.{ℕ, ◌+◌, ◌≤◌}
use native.Mathlib.Omega.{arith}
use mathlib.Core.Path.{◌≡◌, refl, ◌∙◌}
use mathlib.Core.Bool.{true, false, ◌||◌, ◌&&◌, not}
use mathlib.Core.List.{[]}
use lib.Dec.{ltb, leb, eqb}
use borrow.Author.Tests.{ltb-false, leb-false, lt-leb, eq-eqb, lt-ltb, le-ltb}
use Rattle.basics.specs.Refusals.{answer}
use Rattle.basics.proofs.Cases.{or_false, and_no}
use Rattle.basics.proofs.Refusals.{pass, passed, all_passed}
use Rattle.calendar.specs.declared.Day.{Day}
use Rattle.calendar.specs.Closed.{last_day}
use Rattle.amounts.specs.Amounts.{most_rate}
use Rattle.rates.specs.declared.Rates.{Rates}
use Rattle.rates.specs.Rows.{most_rows, row_of, holds, listed_rates}
use Rattle.rates.specs.Force.{has_started, in_force, is_unset, ValidRates}
use Rattle.rates.proofs.Keeping.{unstarted_few, Room}
use Rattle.refusals.specs.Calls.{bad_start, last_kept, no_place, rate_refusals}

module _ (today : Day) (s : Rates) (start : Day) (rate : ℕ) where
  -- there is room for the row of a Rate that is not refused by 25
  rate_room : no_place today s start ≡ false → Room today s (row_of start rate)
  unfolding no_place last_kept has_started
  rate_room e = record {
    place = λ h. leb-false most_rows s.count (or_false {a = leb most_rows s.count} (new h)).0;
    last = λ h full late. rw (eq-eqb (s.count + 1) most_rows full, lt-ltb today.0 start.0 (leb-false start.0 today.0 late)) at (or_false {a = leb most_rows s.count} (new h)).1;
  }
    where
      new : holds start (listed_rates s) ≡ false → (leb most_rows s.count || last_kept today s start) ≡ false
      new h = rw h at e

  -- what a Rate that is done was given
  pub record Rated : Type 0 where
    pub rate_most : rate ≤ most_rate
    pub from_today : today.0 ≤ start.0
    pub start_most : start.0 ≤ last_day
    pub room : Room today s (row_of start rate)

  pub rate_given : answer (rate_refusals today s start rate) ≡ 0 → Rated
  unfolding rate_refusals
  rate_given e =
      let p3 = passed 3 (ltb most_rate rate) _ e refl in
      let p24 = passed 24 (bad_start today start) _ p3.1 refl in
      let p25 = passed 25 (no_place today s start) [] p24.1 refl in
      let bad = or_false {a = ltb start.0 today.0} p24.0 in
      record {
        rate_most = ltb-false most_rate rate p3.0;
        from_today = ltb-false start.0 today.0 bad.0;
        start_most = ltb-false last_day start.0 bad.1;
        room = rate_room p25.0;
      }

-- F7, Rates: if no row has started, a Rate for today with a rate up to 100 is accepted
pub today_taken : (today : Day) (s : Rates) → ValidRates today s → today.0 ≤ last_day → (rate : ℕ) → rate ≤ most_rate → is_unset (in_force today (listed_rates s)) ≡ true →
    answer (rate_refusals today s today rate) ≡ 0
unfolding rate_refusals no_place last_kept
today_taken today s v most rate h none =
    pass 3 _ (le-ltb most_rate rate h) ∙ pass 24 _ (rw (le-ltb today.0 today.0 (omega arith), le-ltb last_day today.0 most)) ∙ pass 25 [] free ∙ all_passed
  where
    -- 16 rows are not held, since then one would have started
    few : leb most_rows s.count ≡ false
    few = lt-leb most_rows s.count (unstarted_few today s v none)

    free : (not (holds today (listed_rates s)) && (leb most_rows s.count || (eqb (s.count + 1) most_rows && (ltb today.0 today.0 && is_unset (in_force today (listed_rates s)))))) ≡ false
    free = rw (few, le-ltb today.0 today.0 (omega arith), and_no (eqb (s.count + 1) most_rows), and_no (not (holds today (listed_rates s))))
