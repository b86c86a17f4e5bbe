-- The model theorem: whatever calls are played from an Open, the book agrees with the events.
use Prim.Native.Nat.{ℕ}
use native.Mathlib.Omega.{arith}
use mathlib.Core.Path.{◌≡◌, refl, ap}
use mathlib.Core.Bool.{Bool, true, false, false≢true}
use mathlib.Core.List.{List, [], ◌∷◌}
use lib.Dec.{eqb, ltb}
use borrow.Author.Tests.{le-ltb, eqb-true}
use Rattle.basics.specs.Choice.{pick}
use Rattle.basics.specs.Lists.{total}
use Rattle.basics.specs.Refusals.{answer}
use Rattle.basics.proofs.Refusals.{passed}
use Rattle.calendar.specs.declared.Day.{Day}
use Rattle.calendar.specs.Closed.{day, closed_days, closed_refused, listed_days}
use Rattle.refusals.specs.Calls.{bad_first}
use Rattle.book.specs.Book.{Valid}
use Rattle.book.specs.Open.{opened, open_refusals, open_refused, setup_of, fresh_book, refused_book}
use Rattle.book.proofs.FreshBooks.{fresh_valid, refused_valid, first_good}
use Rattle.book.proofs.Paid.{zero_at}
use Rattle.journal.specs.Calls.{Opening, Call, Run}
use Rattle.journal.specs.Played.{outcome_of, event_of, begun, step, played, calls_of}
use Rattle.journal.specs.Sums.{setup_in, first_day, today_in, instructed_in, part_in, wished_in, grace_price_in, account_in, last_closed_in}
use Rattle.journal.specs.Promise.{EveryMonth}
use Rattle.journal.proofs.Moves.{Agrees, agrees_step}
use Rattle.journal.proofs.Every.{call_does}
use Rattle.journal.proofs.Months.{month_pays}

-- a run that is what its calls give, of which the book agrees with the events, and every Month has paid
pub record Known (s : Run) : Type 0 where
  pub agrees : Agrees s.opening s.book s.past
  pub answered : s ≡ played s.opening (calls_of s.past)
  pub months : EveryMonth s.past

-- ---- the start
fresh_agrees : (o : Opening) (first : Day) (ds : List ℕ) (terms : ℕ) → Valid (fresh_book first (closed_days ds) terms) →
    setup_of (closed_days ds) terms ≡ setup_in o → first ≡ first_day o → Agrees o (fresh_book first (closed_days ds) terms) []
unfolding today_in instructed_in part_in grace_price_in wished_in account_in last_closed_in total
fresh_agrees o first ds terms v s f =
    let nobody : (n : ℕ) → ltb n 0 ≡ false = λ n. le-ltb n 0 (omega arith) in
    record {
      valid = v;
      setup = s;
      today = f;
      instructed = λ n. rw (nobody n);
      parts = λ n k. rw (nobody n);
      prices = λ n s. rw (nobody n);
      wishes = λ n m. rw (nobody n);
      accounts = λ m. zero_at 32 m;
      last = λ n e. absurd (false≢true e);
    }

open_agrees : (o : Opening) → Agrees o (opened o.first o.closed o.terms).book []
unfolding opened open_refusals refused_book
open_agrees o = by (eqb n 0) refl
  where
    n : ℕ
    n = answer (open_refusals o.first o.closed o.terms)

    by : (t : Bool) → eqb n 0 ≡ t → Agrees o (pick t (record { answer = 0; book = fresh_book o.first (closed_days o.closed) o.terms }) (open_refused n)).book []
    by true e =
        let p1 = passed 1 (ltb 1 o.terms) _ (eqb-true n 0 e) refl in
        let p4 = passed 4 (closed_refused o.closed) _ p1.1 refl in
        let p11 = passed 11 (bad_first (closed_days o.closed) o.first) _ p4.1 refl in
        let good = first_good (listed_days (closed_days o.closed)) o.first p11.0 in
        fresh_agrees o o.first o.closed o.terms (fresh_valid o.first o.closed o.terms p4.0 good.0 good.1) (rw e) (rw e)
    by false e = fresh_agrees o (day 2) [] 0 refused_valid (rw e) (rw e)

pub begun_known : (o : Opening) → Known (begun o)
begun_known o = record { agrees = open_agrees o; answered = refl; months = tt }

-- ---- one call more
pub step_known : (s : Run) (c : Call) → Known s → Known (step s c)
step_known s c k =
    let d = call_does s.book k.agrees.valid c in
    let e = event_of s.book c in
    record {
      agrees = agrees_step s.opening s.book (outcome_of s.book c).book s.past e k.agrees d.moves;
      answered = ap (λ (r : Run). step r c) k.answered;
      months = (month_pays s.opening s.book (outcome_of s.book c).book s.past e k.agrees d, k.months);
    }

pub played_known : (o : Opening) (cs : List Call) → Known (played o cs)
played_known o [] = begun_known o
played_known o (c ∷ earlier) = step_known (played o earlier) c (played_known o earlier)
