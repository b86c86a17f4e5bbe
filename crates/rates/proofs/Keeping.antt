-- What holds of the rates of a book holds of a fresh one, on every later day, and with a further row.
use Prim.Native.Nat.{◌+◌, ◌≤◌, ◌<◌}
use native.Mathlib.Omega.{arith}
use mathlib.Core.Path.{◌≡◌, refl, sym, ap, subst, ◌∙◌}
use mathlib.Core.Bool.{Bool, true, false}
use mathlib.Core.Logic.{◌⊎◌, inl, inr}
use mathlib.Core.List.{List, ◌∷◌}
use lib.ListN.{length, length-replicate}
use Rattle.basics.specs.Lists.{Every, Sorted}
use Rattle.basics.proofs.Cases.{never, below_or_not}
use Rattle.basics.proofs.Everywhere.{every_at}
use Rattle.calendar.specs.declared.Day.{Day}
use Rattle.amounts.specs.Amounts.{most_rate}
use Rattle.rates.specs.declared.RateRow.{RateRow}
use Rattle.rates.specs.declared.Rates.{Rates}
use Rattle.std.specs.Prelude.{Option}
use Rattle.std.specs.Prelude.{Some, None}
use Rattle.rates.specs.Rows.{most_rows, start_of, holds, with_row, place_of, no_row, no_rates, listed_rates, with_rate}
use Rattle.rates.specs.Force.{has_started, in_force, is_unset, rate_of, ValidRates}
use Rattle.rates.proofs.Placing.{held_place, new_place, held_length, new_length, every_with, apart_with, listed_length, listed_with, size_with}
use Rattle.rates.proofs.Ruling.{started_set, others_set, set_later, force_with, in_force_greatest}

-- O5, Open: a fresh book holds no row
pub no_rates_valid : (t : Day) → ValidRates t no_rates
no_rates_valid t = record {
  size = length-replicate most_rows no_row;
  few = omega arith;
  apart = Sorted.empty;
  rates_most = Every.nobody;
  one_started = λ e. absurd (omega (arith, e));
}

-- F5, Rates: a row that has started stays started
pub later_valid : (t u : Day) (s : Rates) → t.0 ≤ u.0 → ValidRates t s → ValidRates u s
later_valid t u s h v = record {
  size = v.size;
  few = v.few;
  apart = v.apart;
  rates_most = v.rates_most;
  one_started = λ e. set_later t u (listed_rates s) h (v.one_started e);
}

-- F7, Rates: if no row has started, at most 15 are held
pub unstarted_few : (t : Day) (s : Rates) → ValidRates t s → is_unset (in_force t (listed_rates s)) ≡ true → s.count < most_rows
unstarted_few t s v none = by (below_or_not s.count most_rows)
  where
    by : (s.count < most_rows) ⊎ (most_rows ≤ s.count) → s.count < most_rows
    by (inl h) = h
    by (inr h) = absurd (never (sym (v.one_started (omega (arith, h, v.few))) ∙ none))

-- the rate in force is not above 100
pub force_most : (t : Day) (s : Rates) → ValidRates t s → rate_of (in_force t (listed_rates s)) ≤ most_rate
force_most t s v = by (in_force t (listed_rates s)) refl
  where
    by : (f : Option RateRow) → in_force t (listed_rates s) ≡ f → rate_of f ≤ most_rate
    by None e = omega arith
    by (Some r) e =
        let g = in_force_greatest t (listed_rates s) r e in
        subst (λ (x : RateRow). x.rate ≤ most_rate) g.row (every_at {P = λ x. x.rate ≤ most_rate} v.rates_most g.index no_row g.within)

-- R25, Refusals: there is a place for a row: one is free where its starting day is new, and where that is the last one,
-- a row has started then
pub record Room (t : Day) (s : Rates) (x : RateRow) : Type 0 where
  pub place : holds (start_of x) (listed_rates s) ≡ false → s.count < most_rows
  pub last : holds (start_of x) (listed_rates s) ≡ false → s.count + 1 ≡ most_rows → has_started t x ≡ false → is_unset (in_force t (listed_rates s)) ≡ false

module _ (t : Day) (s : Rates) (v : ValidRates t s) (x : RateRow) (room : Room t s x) where
  abbrev size : length (listed_rates s) ≡ s.count
  size = listed_length s v.size v.few

  -- the place of its starting day is one of the 16
  pub room_fits : place_of (start_of x) (listed_rates s) < most_rows
  room_fits = by (holds (start_of x) (listed_rates s)) refl
    where
      by : (b : Bool) → holds (start_of x) (listed_rates s) ≡ b → place_of (start_of x) (listed_rates s) < most_rows
      by true e = omega (arith, held_place (start_of x) (listed_rates s) e, size, v.few)
      by false e = omega (arith, new_place (start_of x) (listed_rates s) e, size, room.place e)

  -- the book then lists the rows with it
  pub entered_listed : listed_rates (with_rate x s) ≡ with_row x (listed_rates s)
  entered_listed = listed_with x s v.size v.few room_fits

  -- with it, there are not more than 16 rows
  with_few : length (with_row x (listed_rates s)) ≤ most_rows
  with_few = by (holds (start_of x) (listed_rates s)) refl
    where
      by : (b : Bool) → holds (start_of x) (listed_rates s) ≡ b → length (with_row x (listed_rates s)) ≤ most_rows
      by true e = omega (arith, size, v.few, held_length x (listed_rates s) (held_place (start_of x) (listed_rates s) e))
      by false e = omega (arith, size, room.place e, new_length x (listed_rates s) (new_place (start_of x) (listed_rates s) e))

  -- F7, Rates: if all 16 places are taken then, a row has started
  full_started : length (with_row x (listed_rates s)) ≡ most_rows → is_unset (in_force t (with_row x (listed_rates s))) ≡ false
  full_started full = ap is_unset (force_with t x (listed_rates s)) ∙ by (holds (start_of x) (listed_rates s)) (has_started t x) refl refl
    where
      by : (b c : Bool) → holds (start_of x) (listed_rates s) ≡ b → has_started t x ≡ c → is_unset (in_force t (x ∷ listed_rates s)) ≡ false
      by b true e q = started_set t x (listed_rates s) q
      by true false e q =
          others_set t x (listed_rates s) (v.one_started (omega (arith, full, size, held_length x (listed_rates s) (held_place (start_of x) (listed_rates s) e))))
      by false false e q =
          others_set t x (listed_rates s) (room.last e (omega (arith, full, size, new_length x (listed_rates s) (new_place (start_of x) (listed_rates s) e))) q)

  -- a row that has started makes one in force
  pub entered_started : has_started t x ≡ true → is_unset (in_force t (listed_rates (with_rate x s))) ≡ false
  entered_started e =
      ap (λ (rs : List RateRow). is_unset (in_force t rs)) entered_listed ∙ ap is_unset (force_with t x (listed_rates s)) ∙ started_set t x (listed_rates s) e

  pub with_valid : x.rate ≤ most_rate → ValidRates t (with_rate x s)
  unfolding with_rate
  with_valid most =
      record {
        size = size_with x s v.size v.few room_fits;
        few = with_few;
        apart = rw entered_listed (apart_with x v.apart);
        rates_most = rw entered_listed (every_with {P = λ r. r.rate ≤ most_rate} x most v.rates_most);
        one_started = λ e. rw entered_listed (full_started e);
      }
