-- Each call's refusals: it answers n exactly where n's condition holds and no smaller number's does (`refuses_by`), and
-- is done exactly where no condition holds (`refuses_none`).
use Prim.Native.Nat.{ℕ}
use Rattle.std.specs.Prelude.{Option, Some, None}
use mathlib.Core.Path.{◌≡◌, refl}
use mathlib.Core.List.{List, [], ◌∷◌}
use Rattle.basics.specs.Refusals.{refuse}
use Rattle.basics.proofs.Refusals.{Refuses, is_printed, outcome_refuses}
use Rattle.calendar.specs.declared.Day.{Day}
use Rattle.instructions.specs.declared.Leg.{Leg}
use Rattle.instructions.specs.Legs.{fetched_leg}
use Rattle.instructions.specs.Match.{Fit, lowest_fit}
use Rattle.ledger.specs.Ledger.{fetched}
use Rattle.netting.specs.Accounts.{no_member}
use Rattle.refusals.specs.Calls.{enter_refusals, cancel_refusals_in, cancel_refusals_of, deliver_refusals_in, deliver_refusals_of, offer_refusals_in, offer_refusals_of, rate_refusals, close_refusals_in, close_refusals, again_refusals}
use Rattle.refusals.proofs.Named.{fetch_refuses}
use Rattle.payments.specs.Month.{month_refusals}
use Rattle.book.specs.declared.Book.{Book}
use Rattle.book.specs.declared.Opened.{Opened}
use Rattle.book.specs.declared.Entered.{Entered}
use Rattle.book.specs.declared.Done.{Done}
use Rattle.book.specs.declared.Cancelled.{Cancelled}
use Rattle.book.specs.declared.Delivered.{Delivered}
use Rattle.book.specs.declared.Closed.{Closed}
use Rattle.book.specs.declared.Shown.{Shown}
use Rattle.book.specs.declared.Balance.{Balance}
use Rattle.book.specs.declared.Looked.{Looked}
use Rattle.book.specs.Open.{open_refusals, open_refused, opened}
use Rattle.book.specs.Book.{today_of}
use Rattle.book.specs.Instructing.{new_leg, entered_alone, entered_with, entered_by, enter_refused, enter, withdraw_refusals, done_refused, withdraw_by, withdraw, cancel_refusals, cancel_refused, cancel_done, cancel, deliver_refusals, deliver_refused, deliver_done, deliver}
use Rattle.book.specs.Buying.{offer_refusals_for, offer_refusals, offer_done, offer}
use Rattle.book.specs.Rating.{rate_done, rated}
use Rattle.book.specs.Close.{next_day, force_of, close_refused, close_by, close}
use Rattle.book.specs.Again.{again_done, again}
use Rattle.book.specs.Month.{month}
use Rattle.book.specs.Showing.{status_refusals, status_refused, status_done, status, account_refused, account, Looks}

pub open_refuses : (first : Day) (ds : List ℕ) (terms : ℕ) → Refuses (open_refusals first ds terms) (opened first ds terms).answer
unfolding opened open_refusals
open_refuses first ds terms = outcome_refuses (λ (r : Opened). r.answer) (open_refusals first ds terms) _ open_refused refl refl (λ n. refl)

module _ (b : Book) where
  -- an Enter that is done answers 0, matched or not
  pub entered_zero : (new : Leg) (r : Fit) → (entered_by b new r).answer ≡ 0
  unfolding entered_alone entered_with
  entered_zero new None = refl
  entered_zero new (Some k) = refl

  pub enter_refuses : (member other side q a : ℕ) (j : Day) →
      Refuses (enter_refusals b.setup.closed_days (today_of b) b.legs.count (new_leg member other side q a j)) (enter b member other side q a j).answer
  unfolding enter enter_refusals
  enter_refuses member other side q a j =
      let new = new_leg member other side q a j in
      outcome_refuses (λ (r : Entered). r.answer) (enter_refusals b.setup.closed_days (today_of b) b.legs.count new) _ (enter_refused b) refl
      (entered_zero new (lowest_fit b.legs new)) (λ n. refl)

  pub withdraw_refuses : (leg member : ℕ) → Refuses (withdraw_refusals (fetched_leg b.legs leg) member) (withdraw b leg member).answer
  unfolding withdraw withdraw_by withdraw_refusals
  withdraw_refuses leg member = by (fetched_leg b.legs leg)
    where
      by : (f : Option Leg) → Refuses (withdraw_refusals f member) (withdraw_by b leg member f).answer
      by None = record { printed = is_printed (withdraw_refusals None member) refl; given = refl }
      by (Some l) = outcome_refuses (λ (r : Done). r.answer) (withdraw_refusals (Some l) member) _ (done_refused b) refl refl (λ n. refl)

  pub cancel_refuses : (n member : ℕ) → Refuses (cancel_refusals b n member) (cancel b n member).answer
  unfolding cancel cancel_refusals cancel_refusals_of
  cancel_refuses n member =
      fetch_refuses (cancel_refusals_in member) (λ o. cancel_refusals_of o member) (cancel_done b n member) (cancel_refused b)
      (λ (r : Cancelled). r.answer) (fetched b.ledger n) refl (λ o. refl) (λ o. refl) (λ k. refl)

  pub deliver_refuses : (n q : ℕ) → Refuses (deliver_refusals b n q) (deliver b n q).answer
  unfolding deliver deliver_refusals deliver_refusals_of
  deliver_refuses n q =
      fetch_refuses (deliver_refusals_in q) (λ o. deliver_refusals_of (today_of b) o q) (deliver_done b n q) (deliver_refused b)
      (λ (r : Delivered). r.answer) (fetched b.ledger n) refl (λ o. refl) (λ o. refl) (λ k. refl)

  pub offer_refuses : (n supplier q price : ℕ) → Refuses (offer_refusals b n supplier q price) (offer b n supplier q price).answer
  unfolding offer offer_refusals offer_refusals_in offer_refusals_of
  offer_refuses n supplier q price =
      fetch_refuses (offer_refusals_in supplier q price) (offer_refusals_for b price) (λ o. offer_done b n supplier q price) (done_refused b)
      (λ (r : Done). r.answer) (fetched b.ledger n) refl (λ o. refl) (λ o. refl) (λ k. refl)

  pub rate_refuses : (start : Day) (rate : ℕ) → Refuses (rate_refusals (today_of b) b.rates start rate) (rated b start rate).answer
  unfolding rated rate_refusals
  rate_refuses start rate =
      outcome_refuses (λ (r : Done). r.answer) (rate_refusals (today_of b) b.rates start rate) (rate_done b start rate) (done_refused b) refl refl (λ k. refl)

  pub close_refuses : (price words : ℕ) → Refuses (close_refusals price words (next_day b) (force_of b)) (close b price words).answer
  unfolding close close_by close_refusals close_refusals_in
  close_refuses price words = by (next_day b)
    where
      by : (t : Option Day) → Refuses (close_refusals price words t (force_of b)) (close_by b price words t).answer
      by None = record { printed = is_printed (close_refusals price words None (force_of b)) refl; given = refl }
      by (Some next) =
          outcome_refuses (λ (r : Closed). r.answer) (close_refusals price words (Some next) (force_of b)) _ (close_refused b) refl refl (λ k. refl)

  pub again_refuses : (words : ℕ) → Refuses (again_refusals b.day.has_closed words) (again b words).answer
  unfolding again again_refusals
  again_refuses words = outcome_refuses (λ (r : Closed). r.answer) (again_refusals b.day.has_closed words) (again_done b) (close_refused b) refl refl (λ k. refl)

  pub month_refuses : (cs : List ℕ) (places : ℕ) → Refuses (month_refusals b.ledger.accounts b.day.close_since cs places) (month b cs places).answer
  unfolding month month_refusals
  month_refuses cs places =
      outcome_refuses (λ (r : Done). r.answer) (month_refusals b.ledger.accounts b.day.close_since cs places) _ (done_refused b) refl refl (λ k. refl)

  pub status_refuses : (n : ℕ) → Refuses (status_refusals b n) (status b n).answer
  unfolding status status_refusals
  status_refuses n = fetch_refuses [] (λ o. []) (status_done b) (status_refused b) (λ (r : Shown). r.answer) (fetched b.ledger n) refl (λ o. refl) (λ o. refl) (λ k. refl)

  pub account_refuses : (m : ℕ) → Refuses (refuse 1 (no_member m) ∷ []) (account b m).answer
  unfolding account
  account_refuses m = outcome_refuses (λ (r : Balance). r.answer) (refuse 1 (no_member m) ∷ []) _ (account_refused b) refl refl (λ k. refl)

  -- Look's answer is bounded by a record, which gives its number
  pub look_refuses : (m : ℕ) (r : Looked) → Looks b m r → Refuses (refuse 1 (no_member m) ∷ []) r.answer
  look_refuses m r l = record { printed = is_printed (refuse 1 (no_member m) ∷ []) refl; given = l.number }
