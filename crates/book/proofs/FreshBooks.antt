-- Open gives a valid book, accepted or refused.
use Prim.Native.Nat.{ℕ, ◌≤◌}
use native.Mathlib.Omega.{arith}
use mathlib.Core.Path.{◌≡◌, refl, sym, ap}
use mathlib.Core.Bool.{Bool, true, false, ◌||◌, not}
use mathlib.Core.List.{List, [], map}
use lib.Dec.{ltb, leb, eqb}
use lib.IntN.{nat_abs}
use lib.ListN.{length, length-map}
use borrow.Author.Tests.{ltb-false, leb-true, not-false}
use Rattle.basics.proofs.Cases.{never, pick_case, and_true}
use Rattle.basics.proofs.Places.{padded_length}
use Rattle.calendar.specs.declared.Day.{Day}
use Rattle.calendar.specs.Closed.{day, last_day, most_closed, rises_from, closed_refused, closed_days, listed_days, among}
use Rattle.calendar.specs.Days.{clearing}
use Rattle.calendar.proofs.Closed.{given_rises}
use Rattle.instructions.proofs.Keeping.{none_valid, none_waiting}
use Rattle.rates.proofs.Keeping.{no_rates_valid}
use Rattle.reprint.proofs.Keeping.{kept_valid}
use Rattle.ledger.specs.Setup.{ValidTerms}
use Rattle.ledger.proofs.Valid.{new_valid}
use Rattle.book.specs.Book.{Valid}
use Rattle.book.specs.Open.{terms_of, fresh_book, refused_book}
use Rattle.book.proofs.Paid.{zero_at}

-- the stages follow one another
stages : (terms : ℕ) → ValidTerms (terms_of terms)
stages terms =
    pick_case ValidTerms (eqb terms 0) _ _ (λ e. record { notice_before = omega arith; grace_before = omega arith; last_most = omega arith })
    (λ e. record { notice_before = omega arith; grace_before = omega arith; last_most = omega arith })

-- a list of closed days that is not refused is short enough and rises
closed_taken : (ds : List ℕ) → closed_refused ds ≡ false → (length ds ≤ most_closed) × (rises_from 0 ds ≡ true)
unfolding closed_refused
closed_taken ds e = let p = and_true (leb (length ds) most_closed) (rises_from 0 ds) (not-false _ e) in (leb-true (length ds) most_closed p.0, p.1)

pub closed_short : (ds : List ℕ) → closed_refused ds ≡ false → length ds ≤ most_closed
closed_short ds e = (closed_taken ds e).0

-- a fresh book on a clearing day
pub fresh_valid : (first : Day) (ds : List ℕ) (terms : ℕ) → closed_refused ds ≡ false → first.0 ≤ last_day → clearing (listed_days (closed_days ds)) first ≡ true →
    Valid (fresh_book first (closed_days ds) terms)
unfolding closed_days
fresh_valid first ds terms taken most clears =
    let l = length-map ds day in
    let t = closed_taken ds taken in
    record {
      setup = record {
        closed_size = padded_length most_closed (day 0) (map day ds) (omega (arith, t.0));
        closed_few = t.0;
        closed_rises = given_rises ds t.1;
        terms = stages terms;
      };
      day = record { today_clears = clears; today_most = most };
      legs = none_valid;
      ledger = new_valid;
      last = kept_valid [] (omega arith);
      rates = no_rates_valid first;
      room = omega (arith, none_waiting);
      timely = λ n h. absurd (omega arith);
      accounts_near = λ m. omega (arith, ap nat_abs (zero_at 32 m));
    }

pub refused_valid : Valid refused_book
unfolding refused_book closed_days closed_refused rises_from listed_days clearing among
refused_valid = fresh_valid (day 2) [] 0 refl (omega arith) refl

-- a first day that is not refused
pub first_good : (cs : List Day) (first : Day) → (ltb last_day first.0 || not (clearing cs first)) ≡ false → (first.0 ≤ last_day) × (clearing cs first ≡ true)
first_good cs first e = by (ltb last_day first.0) (clearing cs first) refl refl e
  where
    by : (t u : Bool) → ltb last_day first.0 ≡ t → clearing cs first ≡ u → (t || not u) ≡ false → (first.0 ≤ last_day) × (clearing cs first ≡ true)
    by true u p q r = absurd (never (sym r))
    by false true p q r = (ltb-false last_day first.0 p, q)
    by false false p q r = absurd (never (sym r))
