-- Whatever calls are played from an Open, what the book stores beside its obligations is what the events tell:
-- `played_recalls` and `known_recalls`. So what holds of each call holds of every event: `each_known` at the end.
use Rattle.std.specs.Prelude.{Option, None, Some}
use Prim.Native.Nat.{ℕ, ◌+◌, ◌*◌, ◌≤◌}
use native.Mathlib.Omega.{arith}
use mathlib.Core.Path.{◌≡◌, refl, sym, ap, ap₂, subst⁻¹, ◌∙◌}
use mathlib.Core.Bool.{Bool, true, false}
use mathlib.Core.List.{List, [], ◌∷◌}
use lib.Dec.{ltb, eqb}
use lib.ListN.{length}
use borrow.Author.Tests.{le-ltb}
use Rattle.basics.specs.Choice.{pick}
use Rattle.basics.specs.Refusals.{answer}
use Rattle.basics.proofs.Refusals.{by_number}
use Rattle.calendar.specs.declared.Day.{Day}
use Rattle.calendar.specs.declared.ClosedDays.{ClosedDays}
use Rattle.calendar.specs.Closed.{day, closed_days}
use Rattle.offers.specs.Rank.{ranked}
use Rattle.offers.specs.Held.{listed_offers}
use Rattle.offers.proofs.Holding.{listed_none}
use Rattle.rates.specs.Rows.{entered_rows, listed_rates}
use Rattle.instructions.specs.declared.Leg.{Leg}
use Rattle.instructions.specs.Legs.{entered}
use Rattle.instructions.specs.Match.{first_fit}
use Rattle.ledger.specs.Lines.{words_in_line}
use Rattle.reprint.specs.Kept.{kept_from}
use Rattle.book.specs.declared.Book.{Book}
use Rattle.book.specs.declared.Opened.{Opened}
use Rattle.book.specs.Open.{opened, open_refusals, open_refused, fresh_book, refused_book}
use Rattle.journal.specs.Calls.{Opening, Call, Event, Run}
use Rattle.journal.specs.Played.{outcome_of, event_of, played, calls_of}
use Rattle.journal.specs.Facts.{LegChange, enters, withdraws, neither, instructed_by, instructs, is_end, reported, facts}
use Rattle.journal.specs.Sums.{or_else, is_month}
use Rattle.journal.specs.History.{close_since_in, latest_close, was_close, latest_lines, offers_in, rates_in, legs_after, legs_in, entered_as, leg_in, waits_after, waiting_in, amount_with, amount_by, amount_in}
use Rattle.journal.specs.Promise.{EachEvent}
use Rattle.journal.proofs.Rows.{held, held_step, Rows}
use Rattle.journal.proofs.Every.{call_does}
use Rattle.journal.proofs.Model.{Known, played_known}
use Rattle.journal.proofs.RecalledLegs.{leg_of, waits_of, Proper, change_leg, change_waits}
use Rattle.journal.proofs.Moves.{Agrees}
use Rattle.journal.proofs.Does.{Leaves, Does, no_some}

-- the book stores what the events tell of Closes, offers, rates and legs
pub record Recalls (b : Book) (es : List Event) : Type 0 where
  pub close_since : b.day.close_since ≡ close_since_in es
  pub has_closed : b.day.has_closed ≡ was_close (latest_close es)
  pub last : b.last ≡ kept_from (latest_lines (latest_close es))
  pub fits : (x : Event) → latest_close es ≡ Some x → words_in_line * length (reported (facts x).ends) ≤ length x.words
  pub offers : listed_offers b.ledger.offers ≡ ranked (offers_in es)
  pub rates : listed_rates b.rates ≡ entered_rows (rates_in es)
  pub legs : entered b.legs ≡ legs_in es
  pub leg : (n : ℕ) → leg_of n (legs_in es) ≡ leg_in n es
  pub waits : (n : ℕ) → waits_of n (legs_in es) ≡ waiting_in n es
  pub amounts : (n : ℕ) → held (λ o. Some o.deal.amount) None b n ≡ amount_in n es

-- ---- the start
fresh_recalls : (first : Day) (closed : ClosedDays) (terms : ℕ) → Recalls (fresh_book first closed terms) []
unfolding close_since_in latest_close offers_in rates_in entered_rows legs_in leg_in waiting_in amount_in
fresh_recalls first closed terms =
    let nobody : (n : ℕ) → ltb n 0 ≡ false = λ n. le-ltb n 0 (omega arith) in
    record {
      close_since = refl;
      has_closed = refl;
      last = refl;
      fits = λ x q. absurd (no_some q);
      offers = listed_none;
      rates = refl;
      legs = refl;
      leg = λ n. rw (nobody n);
      waits = λ n. refl;
      amounts = λ n. rw (nobody n);
    }

open_recalls : (o : Opening) → Recalls (opened o.first o.closed o.terms).book []
unfolding opened refused_book
open_recalls o =
    by_number (λ (x : Opened). Recalls x.book []) (answer (open_refusals o.first o.closed o.terms)) _ open_refused
    (λ z. fresh_recalls (day 2) (closed_days []) 0)
    (λ e. fresh_recalls o.first (closed_days o.closed) o.terms)

-- ---- one call more
module _ (b after : Book) (es : List Event) (e : Event) (r : Rows b after (facts e)) (l : Leaves b after (facts e))
    (within : words_in_line * length (reported (facts e).ends) ≤ length e.words) (k : Recalls b es) where
  -- the latest Close is this event or the one before it
  latest_closed : (t : Bool) → pick t true (was_close (latest_close es)) ≡ was_close (pick t (Some e) (latest_close es))
  latest_closed true = refl
  latest_closed false = refl

  latest_lines_lem : (t : Bool) → pick t (kept_from (reported (facts e).ends)) (kept_from (latest_lines (latest_close es))) ≡ kept_from (latest_lines (pick t (Some e) (latest_close es)))
  latest_lines_lem true = refl
  latest_lines_lem false = refl

  latest_fits : (t : Bool) (x : Event) → pick t (Some e) (latest_close es) ≡ Some x → words_in_line * length (reported (facts x).ends) ≤ length x.words
  latest_fits true x q = let same : e ≡ x = cc in rw (← same) within
  latest_fits false x q = k.fits x q

  -- what is not instructed has no amount
  no_amount_by : (n : ℕ) (c : LegChange) (ls : List Leg) → instructs n c ≡ None → amount_by n c ls ≡ None
  no_amount_by n (enters leg obligation new) ls q = by (eqb obligation (n + 1)) q
    where
      by : (t : Bool) → pick t (Some (instructed_by new)) None ≡ None → pick t (Some (amount_with new (first_fit new 0 ls) ls)) None ≡ None
      by true z = absurd (no_some (sym z))
      by false z = refl
  no_amount_by n (withdraws k) ls q = refl
  no_amount_by n neither ls q = refl

  amount_step : (n : ℕ) → held (λ o. Some o.deal.amount) None after n ≡ or_else (amount_by n (facts e).legs (entered b.legs)) (held (λ o. Some o.deal.amount) None b n)
  amount_step n =
      held_step (λ o. Some o.deal.amount) None b after n (or_else (amount_by n (facts e).legs (entered b.legs))) r.kept
      (λ h. let row = r.there n h in rw (no_amount_by n (facts e).legs (entered b.legs) row.instructed) (ap (λ d. Some d.amount) row.later.deal))
      (λ h below. rw (l.amounts n h below))
      (λ h. rw (no_amount_by n (facts e).legs (entered b.legs) (r.absent n h).instructed))

  recalls_step : Recalls after (e ∷ es)
  unfolding close_since_in latest_close offers_in rates_in legs_in leg_in waiting_in amount_in
  recalls_step =
      let proper : Proper (facts e).legs (legs_in es) = rw k.legs at l.proper in
      record {
        close_since = l.close_since ∙ ap (λ (t : Bool). pick (is_end (facts e).ends) true (pick (is_month (facts e).collects) false t)) k.close_since;
        has_closed = l.has_closed ∙ ap (pick (is_end (facts e).ends) true) k.has_closed ∙ latest_closed (is_end (facts e).ends);
        last = l.last ∙ ap (pick (is_end (facts e).ends) (kept_from (reported (facts e).ends))) k.last ∙ latest_lines_lem (is_end (facts e).ends);
        fits = latest_fits (is_end (facts e).ends);
        offers = l.offers (offers_in es) k.offers;
        rates = l.rates (rates_in es) k.rates;
        legs = l.legs ∙ ap (legs_after (facts e).legs) k.legs;
        leg = λ n. change_leg (facts e).legs (legs_in es) proper n ∙ ap (or_else (entered_as n (facts e).legs)) (k.leg n);
        waits = λ n. change_waits (facts e).legs (legs_in es) proper n ∙ ap (waits_after n (facts e).legs (legs_in es)) (k.waits n);
        amounts = λ n. amount_step n ∙ ap₂ (λ (ls : List Leg) (x : Option ℕ). or_else (amount_by n (facts e).legs ls) x) k.legs (k.amounts n);
      }

-- ---- every run
abbrev pub RunRecalls : Run → Type 0
RunRecalls s = Recalls s.book s.past

pub played_recalls : (o : Opening) (cs : List Call) → RunRecalls (played o cs)
played_recalls o [] = open_recalls o
played_recalls o (c ∷ earlier) =
    let s = played o earlier in
    let d = call_does s.book (played_known o earlier).agrees.valid c in
    recalls_step s.book (outcome_of s.book c).book s.past (event_of s.book c) d.moves.rows d.leaves d.fits (played_recalls o earlier)

-- of every run that is known
pub known_recalls : (s : Run) → Known s → RunRecalls s
known_recalls s k = subst⁻¹ RunRecalls k.answered (played_recalls s.opening (calls_of s.past))

-- ---- every event
-- What holds of each call that is played, with the events before it, holds of every event of a run.
module _ (P : Opening → Event → List Event → Type 0)
    (one : (o : Opening) (b after : Book) (es : List Event) (e : Event) → Agrees o b es → Recalls b es → Does b after (facts e) e.words → P o e es) where
  abbrev Each : Run → Type 0
  Each s = EachEvent (P s.opening) s.past

  each_played : (o : Opening) (cs : List Call) → Each (played o cs)
  each_played o [] = tt
  each_played o (c ∷ earlier) =
      let s = played o earlier in
      let g = (played_known o earlier).agrees in
      (one s.opening s.book (outcome_of s.book c).book s.past (event_of s.book c) g (played_recalls o earlier) (call_does s.book g.valid c), each_played o earlier)

  pub each_known : (s : Run) → Known s → Each s
  each_known s k = subst⁻¹ Each k.answered (each_played s.opening (calls_of s.past))
