-- What the rules give for an Open and a list of calls.
use Rattle.std.specs.Prelude.{ℕ, List, [], ◌∷◌, length}
use Rattle.book.specs.declared.Book.{Book}
use Rattle.book.specs.declared.Entered.{Entered}
use Rattle.book.specs.declared.Done.{Done}
use Rattle.book.specs.declared.Cancelled.{Cancelled}
use Rattle.book.specs.declared.Delivered.{Delivered}
use Rattle.book.specs.declared.Closed.{Closed}
use Rattle.book.specs as rules
use Rattle.journal.specs.Calls.{Opening, Call, Event, Run}

-- O8, Open: what comes of a call on a book: the answer number, which is 0 if the call was done, the results, the words
-- of the list that it fills and of the list that it only reads, and the book
pub record Outcome : Type 0 where
  pub answer : ℕ
  pub results : List ℕ
  pub words : List ℕ
  pub kept : List ℕ
  pub book : Book

-- ---- the outcome by the answer of a function
-- T2, Withdraw; B4, Buy-in; F3, Rates: the outcome of a call that returns its answer number and nothing more
abbrev pub of_done : Done → Outcome
of_done r = record { answer = r.answer; results = []; words = []; kept = []; book = r.book }

-- E11, Enter: the outcome of an Enter: the leg, and the obligation plus 1 or 0
abbrev pub of_entered : Entered → Outcome
of_entered r = record { answer = r.answer; results = r.leg ∷ r.obligation ∷ []; words = []; kept = []; book = r.book }

-- K3, Cancel: the outcome of a Cancel: the quantity that was moved
abbrev pub of_cancelled : Cancelled → Outcome
of_cancelled r = record { answer = r.answer; results = r.moved ∷ []; words = []; kept = []; book = r.book }

-- V2, Deliver: the outcome of a Deliver: the cash
abbrev pub of_delivered : Delivered → Outcome
of_delivered r = record { answer = r.answer; results = r.cash ∷ []; words = []; kept = []; book = r.book }

-- C15, Close; N2, Again: the outcome of a Close or an Again: the number of lines, and every word of the list
abbrev pub of_closed : Closed → List ℕ → Outcome
of_closed r words = record { answer = r.answer; results = r.count ∷ []; words = words; kept = []; book = r.book }

-- M3, Month: the outcome of a Month: every place for payouts, and the collected amounts as the call ended
abbrev pub of_paid : Done → List ℕ → List ℕ → Outcome
of_paid r payouts collected = record { answer = r.answer; results = []; words = payouts; kept = collected; book = r.book }

-- G2, Promises; J3, Whole journals: what the rules give for each call on a book, by the definition of that call. The
-- collected amounts of a Month end as they were lent.
abbrev pub outcome_of : Book → Call → Outcome
outcome_of b (Call.enter member other side q a j) = of_entered (rules.Instructing.enter b member other side q a j)
outcome_of b (Call.withdraw leg member) = of_done (rules.Instructing.withdraw b leg member)
outcome_of b (Call.cancel n member) = of_cancelled (rules.Instructing.cancel b n member)
outcome_of b (Call.deliver n q) = of_delivered (rules.Instructing.deliver b n q)
outcome_of b (Call.offer n supplier q price) = of_done (rules.Buying.offer b n supplier q price)
outcome_of b (Call.rate start rate) = of_done (rules.Rating.rated b start rate)
outcome_of b (Call.close price lines) =
    of_closed (rules.Close.close b price (length lines)) (rules.Close.close_words b price lines)
outcome_of b (Call.again lines) = of_closed (rules.Again.again b (length lines)) (rules.Again.again_words b lines)
outcome_of b (Call.month collected payouts) =
    of_paid (rules.Month.month b collected (length payouts)) (rules.Month.month_words b collected payouts) collected

-- a call with what came of it
abbrev pub event_with : Call → Outcome → Event
event_with c r = record { call = c; answer = r.answer; results = r.results; words = r.words; kept = r.kept }

-- a call with what the rules give for it
abbrev pub event_of : Book → Call → Event
event_of b c = event_with c (outcome_of b c)

-- G2, Promises; J1 and J3, Whole journals: the book that an Open returned, accepted or refused, and no call yet. The
-- closed days end as they were lent.
abbrev pub begun : Opening → Run
begun o =
    let r = rules.Open.opened o.first o.closed o.terms in
    record { opening = o; began = record { answer = r.answer; closed = o.closed }; book = r.book; past = [] }

-- a journal with one more call and what came of it
abbrev pub after : Run → Call → Outcome → Run
after s c r = record { opening = s.opening; began = s.began; book = r.book; past = event_with c r ∷ s.past }

-- a journal with one more call and what the rules give for it
abbrev pub step : Run → Call → Run
step s c = after s c (outcome_of s.book c)

-- G3, Promises; J3, Whole journals: what an Open and a list of calls lead to, worked out from nothing but these. Each
-- call works on the book that the call before it returned. The latest call comes first in the list.
abbrev pub played : Opening → List Call → Run
played o [] = begun o
played o (c ∷ earlier) = step (played o earlier) c

-- the calls of a list of events
abbrev pub calls_of : List Event → List Call
calls_of [] = []
calls_of (e ∷ es) = e.call ∷ calls_of es
