-- Instructions: the calls Enter, Withdraw, Cancel and Deliver.
use Rattle.std.specs.Prelude.{ℕ, ◌<◌, true, not, List, [], ◌∷◌, eqb, Option, Some, None, Result, Ok, Err}
use Rattle.basics.specs.declared.Reason.{Reason}
use Rattle.basics.specs.Reasons.{answer_of}
use Rattle.basics.specs.Refusals.{Refusal, refuse, answer, outcome}
use Rattle.calendar.specs.declared.Day.{Day}
use Rattle.instructions.specs.declared.Leg.{Leg}
use Rattle.instructions.specs.declared.Legs.{Legs}
use Rattle.instructions.specs.declared.LegState.TheVariants.{Withdrawn}
use Rattle.instructions.specs.declared.Entry.{Entry}
use Rattle.instructions.specs.declared.Entry.TheVariants.{Alone, Matching}
use Rattle.instructions.specs.Legs.{most_legs, is_waiting, leg_of, leg_at, fetched_leg, with_state}
use Rattle.instructions.specs.Match.{Fit, delivering, receiving, lowest_fit}
use Rattle.instructions.specs.Entry.{with_entry, leg_number, obligation_number}
use Rattle.ledger.specs.declared.Part.TheVariants as part
use Rattle.ledger.specs.declared.Obligation.{Obligation}
use Rattle.ledger.specs.declared.Ledger.{Ledger}
use Rattle.ledger.specs.declared.Fetched.{Fetched}
use Rattle.ledger.specs.Obligations.{new_obligation, cash_of, moving, wishing, moved_by_wish}
use Rattle.ledger.specs.Ledger.{most_obligations, fetched, with_obligation, Effect, refused_change, with_new}
use Rattle.book.specs.declared.Book.{Book}
use Rattle.book.specs.declared.Entered.{Entered}
use Rattle.book.specs.declared.Done.{Done}
use Rattle.book.specs.declared.Cancelled.{Cancelled}
use Rattle.book.specs.declared.Delivered.{Delivered}
use Rattle.refusals.specs.Calls.{fetch_refusals, fetch_outcome, enter_refusals, cancel_refusals_in, cancel_refusals_of, deliver_refusals_in, deliver_refusals_of}
use Rattle.netting.specs.Accounts.{no_member}
use Rattle.book.specs.Book.{with_legs, with_ledger, today_of}

-- ---- Enter
-- E1, Enter: the leg of an instruction with these numbers
abbrev pub new_leg : ℕ → ℕ → ℕ → ℕ → ℕ → Day → Leg
new_leg member other side q a j = leg_of (record { member = member; other = other; side = side; quantity = q; amount = a; day = j })

-- E8, Enter: the obligation of two legs has A and the seller from the delivering leg, the buyer from the receiving leg,
-- and Q and J, in which the two agree, from the new one
unfoldable pub obligation_of : Leg → Leg → Obligation
obligation_of new old =
    new_obligation (record {
      seller = (delivering new old).member;
      buyer = (receiving new old).member;
      quantity = new.quantity;
      amount = (delivering new old).amount;
      day = new.day;
    })

-- E8, Enter: the ledger after an Enter. A leg that matches one of these legs makes an obligation. A refused Enter
-- leaves the ledger as it is (A5).
abbrev pub with_match : Legs → Result Entry Reason → Ledger → Ledger
with_match legs (Err reason) l = l
with_match legs (Ok (Alone new)) l = l
with_match legs (Ok (Matching new k)) l = with_new (obligation_of new (leg_at legs k)) l

-- what is required so that the ledger can take the obligation of a match
abbrev pub Matchable : Result Entry Reason → Ledger → Type 0
Matchable (Err reason) l = Unit {0}
Matchable (Ok (Alone new)) l = Unit {0}
Matchable (Ok (Matching new k)) l = (k < most_legs) × (l.count < most_obligations)

-- E8 and E10, Enter: the book after an Enter
abbrev pub entered_book : Book → Result Entry Reason → Book
entered_book b e = with_legs (with_entry e b.ledger.count b.legs) (with_ledger (with_match b.legs e b.ledger) b)

-- E11, Enter; A5, Refusals: what an Enter that comes to this returns
abbrev pub enter_returns : Book → Result Entry Reason → Entered
enter_returns b e = record {
  answer = answer_of e;
  leg = leg_number e b.legs.count;
  obligation = obligation_number e b.ledger.count;
  book = entered_book b e;
}

-- E10 and E11, Enter: what Enter returns if no leg fits: the new one waits
unfoldable pub entered_alone : Book → Leg → Entered
entered_alone b new = enter_returns b (Ok (Alone new))

-- E8, E10 and E11, Enter: what Enter returns if leg k fits: both are matched to a new obligation
unfoldable pub entered_with : Book → Leg → ℕ → Entered
entered_with b new k = enter_returns b (Ok (Matching new k))

-- E10, Enter: what an accepted Enter returns, by the search for the leg that the new one matches
abbrev pub entered_by : Book → Leg → Fit → Entered
entered_by b new None = entered_alone b new
entered_by b new (Some k) = entered_with b new k

-- A5, Refusals: what a refused Enter returns
abbrev pub enter_refused : Book → ℕ → Entered
enter_refused b n = record { answer = n; leg = 0; obligation = 0; book = b }

-- E1 to E11, Enter: what Enter returns
unfoldable pub enter : Book → ℕ → ℕ → ℕ → ℕ → ℕ → Day → Entered
enter b member other side q a j =
    let new = new_leg member other side q a j in
    outcome (answer (enter_refusals b.setup.closed_days (today_of b) b.legs.count new)) (entered_by b new (lowest_fit b.legs new))
    (enter_refused b)

-- ---- Withdraw
-- A8, R1, R13 and R14, Refusals: the refusals of Withdraw, by what was fetched. 13 holds if there is no such leg or it
-- does not wait, and 14 if the leg is another member's.
unfoldable pub withdraw_refusals : Option Leg → ℕ → List Refusal
withdraw_refusals None member = refuse 1 (no_member member) ∷ refuse 13 true ∷ []
withdraw_refusals (Some l) member =
    refuse 1 (no_member member)
    ∷ refuse 13 (not (is_waiting l.state))
    ∷ refuse 14 (not (eqb l.member member))
    ∷ []

-- A5, Refusals: what a refused Withdraw, Offer or Month returns
abbrev pub done_refused : Book → ℕ → Done
done_refused b n = record { answer = n; book = b }

-- T1, Withdraw: what a Withdraw that is done returns: leg n is withdrawn
abbrev pub withdraw_done : Book → ℕ → Done
withdraw_done b n = record { answer = 0; book = with_legs (with_state n Withdrawn b.legs) b }

-- T1 and T2, Withdraw: what Withdraw returns, by what was fetched. If the leg is absent, the call is refused. If it was
-- found, the call is done or refused.
unfoldable pub withdraw_by : Book → ℕ → ℕ → Option Leg → Done
withdraw_by b n member None = done_refused b (answer (withdraw_refusals None member))
withdraw_by b n member (Some l) = outcome (answer (withdraw_refusals (Some l) member)) (withdraw_done b n) (done_refused b)

-- T1 and T2, Withdraw: what Withdraw returns: its answer number, and the book
unfoldable pub withdraw : Book → ℕ → ℕ → Done
withdraw b n member = withdraw_by b n member (fetched_leg b.legs n)

-- ---- Cancel
-- A9, Refusals: all refusals of Cancel
unfoldable pub cancel_refusals : Book → ℕ → ℕ → List Refusal
cancel_refusals b n member = fetch_refusals (cancel_refusals_in member) (fetched b.ledger n) (λ o. cancel_refusals_of o member)

-- K4, Cancel; A5, Refusals: what a refused Cancel returns; it records no wish
abbrev pub cancel_refused : Book → ℕ → Cancelled
cancel_refused b n = record { answer = n; moved = 0; book = b }

-- K1 to K3, Cancel: what a Cancel that is done makes of obligation o: the quantity that is cancelled, and o with the
-- wish
abbrev pub cancel_to : ℕ → Obligation → Effect
cancel_to member o = record { answer = 0; result = moved_by_wish member o; obligation = wishing member o }

-- K1 to K3, Cancel: what Cancel returns if it is done on obligation n, which is o
abbrev pub cancel_done : Book → ℕ → ℕ → Obligation → Cancelled
cancel_done b n member o = record {
  answer = 0;
  moved = (cancel_to member o).result;
  book = with_ledger (with_obligation n (cancel_to member o).obligation b.ledger) b;
}

-- K1 to K4, Cancel: a Cancel is done or refused, by what was fetched
abbrev pub cancel_outcome : {A : Type 0} → ℕ → Fetched → (Obligation → A) → (ℕ → A) → A
cancel_outcome member f done refused = fetch_outcome (cancel_refusals_in member) f (λ o. cancel_refusals_of o member) done refused

-- K1 to K4, Cancel: what Cancel makes of what was fetched
unfoldable pub cancel_change : ℕ → Fetched → Effect
cancel_change member f = cancel_outcome member f (cancel_to member) refused_change

-- K1 to K4, Cancel: what Cancel returns
unfoldable pub cancel : Book → ℕ → ℕ → Cancelled
cancel b n member = cancel_outcome member (fetched b.ledger n) (cancel_done b n member) (cancel_refused b)

-- ---- Deliver
-- A10, Refusals: all refusals of Deliver
unfoldable pub deliver_refusals : Book → ℕ → ℕ → List Refusal
deliver_refusals b n q = fetch_refusals (deliver_refusals_in q) (fetched b.ledger n) (λ o. deliver_refusals_of (today_of b) o q)

-- A5, Refusals: what a refused Deliver returns
abbrev pub deliver_refused : Book → ℕ → Delivered
deliver_refused b n = record { answer = n; cash = 0; book = b }

-- V1 and V2, Deliver: what a Deliver that is done makes of obligation o: the cash, and o after the delivery
abbrev pub deliver_to : ℕ → Obligation → Effect
deliver_to q o = record { answer = 0; result = cash_of o q; obligation = moving part.Delivered q o }

-- V1 and V2, Deliver: what Deliver returns if it is done on obligation n, which is o
abbrev pub deliver_done : Book → ℕ → ℕ → Obligation → Delivered
deliver_done b n q o = record {
  answer = 0;
  cash = (deliver_to q o).result;
  book = with_ledger (with_obligation n (deliver_to q o).obligation b.ledger) b;
}

-- V1 and V2, Deliver: a Deliver is done or refused, by what was fetched, on this day
abbrev pub deliver_outcome : {A : Type 0} → Day → ℕ → Fetched → (Obligation → A) → (ℕ → A) → A
deliver_outcome today q f done refused = fetch_outcome (deliver_refusals_in q) f (λ o. deliver_refusals_of today o q) done refused

-- V1 and V2, Deliver: what Deliver makes of what was fetched, on this day
unfoldable pub deliver_change : Day → ℕ → Fetched → Effect
deliver_change today q f = deliver_outcome today q f (deliver_to q) refused_change

-- V1 and V2, Deliver: what Deliver returns
unfoldable pub deliver : Book → ℕ → ℕ → Delivered
deliver b n q = deliver_outcome (today_of b) q (fetched b.ledger n) (deliver_done b n q) (deliver_refused b)
