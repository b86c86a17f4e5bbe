-- The statement of the promise on whole journals (docs/RULES.md, chapter Promises, G3): what is promised of every list
-- of calls, said of the functions themselves. It can be read without the proof, which is in Theorem.antt. `Asked` is
-- what the contract of a function requires, and `Learnt` is what the contract tells a caller of the result and of the
-- lists as the call ended. A clause of the statement says of each function that its code gives a caller exactly this.
use Rattle.std.specs.Prelude.{Some}
use Prim.Native.Nat.{ℕ, ◌<◌}
use mathlib.Core.Path.{◌≡◌}
use mathlib.Core.List.{List, []}
use lib.IntN.{pos}
use contract.Lifetimes.{Lfts}
use mir.Syntax.{Callee}
use prog.Routine.{Env}
use prog.Wired.{Wired, Code as CodeOf}
use denote.Bor.{Bor}
use denote.MutBor.{MutBor}
use borrow.Fn.Kind.{ParamKind, ResultKind}
use borrow.Fn.Kinds.{In, Out}
use borrow.Fn.World.{World}
use borrow.Fn.Run.{Over}
use borrow.Fn.Plain.{Known}
use Rattle.basics.specs.Lists.{table}
use Rattle.calendar.specs.declared.Day.{Day}
use Rattle.netting.specs.Accounts.{member_count, debts, balance}
use Rattle.book.specs.declared.Book.{Book}
use Rattle.book.specs.declared.Opened.{Opened}
use Rattle.book.specs.declared.Entered.{Entered}
use Rattle.book.specs.declared.Done.{Done}
use Rattle.book.specs.declared.Cancelled.{Cancelled}
use Rattle.book.specs.declared.Delivered.{Delivered}
use Rattle.book.specs.declared.Closed.{Closed}
use Rattle.book.specs.declared.Shown.{Shown}
use Rattle.book.specs.declared.Balance.{Balance}
use Rattle.book.specs.declared.Looked.{Looked}
use Rattle.book.specs.Book.{Valid}
use Rattle.book.proofs.Book as code
use Rattle.journal.specs.Calls.{Opening, Call, Run}
use Rattle.journal.specs.Played.{Outcome, of_done, of_entered, of_cancelled, of_delivered, of_closed, of_paid, after, played, calls_of}
use Rattle.journal.specs.Facts.{Instructed}
use Rattle.journal.specs.Sums.{instructed_in, debts_in}
use Rattle.journal.specs.Promise.{StatusShows, AccountShows, LookShows, AgainShows, EveryMonth, EveryPenalty, EveryBuyIn, EveryCapPrice}

-- J1, Whole journals: a call on a book with any arguments and any lent lists, and what came of it. The result, and the
-- lent lists as the call ended, are any that the contract of the function allows.
pub data Called (b : Book) : Call → Outcome → Type 0 where
  entered : (member other side q a : ℕ) (j : Day) (r : Entered) (x : _) →
      code.enter.Reads.Learnt tt (b, (member, (other, (side, (q, (a, (j, tt))))))) r x → Called b (Call.enter member other side q a j) (of_entered r)
  withdrew : (leg member : ℕ) (r : Done) (x : _) →
      code.withdraw.Reads.Learnt tt (b, (leg, (member, tt))) r x → Called b (Call.withdraw leg member) (of_done r)
  cancelled : (n member : ℕ) (r : Cancelled) (x : _) →
      code.cancel.Reads.Learnt tt (b, (n, (member, tt))) r x → Called b (Call.cancel n member) (of_cancelled r)
  delivered : (n q : ℕ) (r : Delivered) (x : _) →
      code.deliver.Reads.Learnt tt (b, (n, (q, tt))) r x → Called b (Call.deliver n q) (of_delivered r)
  offered : (n supplier q price : ℕ) (r : Done) (x : _) →
      code.offer.Reads.Learnt tt (b, (n, (supplier, (q, (price, tt))))) r x → Called b (Call.offer n supplier q price) (of_done r)
  rated : (start : Day) (rate : ℕ) (r : Done) (x : _) →
      code.rate.Reads.Learnt tt (b, (start, (rate, tt))) r x → Called b (Call.rate start rate) (of_done r)
  closed : (κs : Lfts 1) (price : ℕ) (lines : MutBor (List ℕ)) (r : Closed) (x : _) →
      code.close.Reads.Learnt κs (b, (price, (lines, tt))) r x → Called b (Call.close price lines.now) (of_closed r x.1.1.0.now)
  repeated : (κs : Lfts 1) (lines : MutBor (List ℕ)) (r : Closed) (x : _) →
      code.again.Reads.Learnt κs (b, (lines, tt)) r x → Called b (Call.again lines.now) (of_closed r x.1.0.now)
  settled : (κs : Lfts 2) (collected : Bor (List ℕ)) (payouts : MutBor (List ℕ)) (r : Done) (x : _) →
      code.month.Reads.Learnt κs (b, (collected, (payouts, tt))) r x →
      Called b (Call.month collected.now payouts.now) (of_paid r x.1.1.0.now x.1.0.now)

-- J1, Whole journals: the runs of the functions: an Open with any arguments and any lent list, and then any calls
pub data Ran : Run → Type 0 where
  opened : (first : Day) (κs : Lfts 1) (closed : Bor (List ℕ)) (terms : ℕ) (r : Opened) (x : _) → code.«open».Reads.Learnt κs (first, (closed, (terms, tt))) r x →
      Ran (record {
        opening = record { first = first; closed = closed.now; terms = terms };
        began = record { answer = r.answer; closed = x.1.0.now };
        book = r.book;
        past = [];
      })
  called : {s : Run} {c : Call} {r : Outcome} → Ran s → Called s.book c r → Ran (after s c r)

-- G1, Promises: what the contract of a call's function requires of the book and the arguments, wherever a lent list is
abbrev pub May : Book → Call → Type 0
May b (Call.enter member other side q a j) = code.enter.Reads.Asked tt (b, (member, (other, (side, (q, (a, (j, tt)))))))
May b (Call.withdraw leg member) = code.withdraw.Reads.Asked tt (b, (leg, (member, tt)))
May b (Call.cancel n member) = code.cancel.Reads.Asked tt (b, (n, (member, tt)))
May b (Call.deliver n q) = code.deliver.Reads.Asked tt (b, (n, (q, tt)))
May b (Call.offer n supplier q price) = code.offer.Reads.Asked tt (b, (n, (supplier, (q, (price, tt)))))
May b (Call.rate start rate) = code.rate.Reads.Asked tt (b, (start, (rate, tt)))
May b (Call.close price lines) = (κs : Lfts 1) (ls : MutBor (List ℕ)) → code.close.Reads.Asked κs (b, (price, (ls, tt)))
May b (Call.again lines) = (κs : Lfts 1) (ls : MutBor (List ℕ)) → code.again.Reads.Asked κs (b, (ls, tt))
May b (Call.month collected payouts) = (κs : Lfts 2) (cs : Bor (List ℕ)) (ps : MutBor (List ℕ)) → code.month.Reads.Asked κs (b, (cs, (ps, tt)))

-- Status was called on a book, and answered what its contract allows
pub data StatusCalled (b : Book) (n : ℕ) (t : Shown) : Type 0 where
  called : (x : _) → code.status.Reads.Learnt tt (b, (n, tt)) t x → StatusCalled b n t

-- Account was called on a book, and answered what its contract allows
pub data AccountCalled (b : Book) (m : ℕ) (t : Balance) : Type 0 where
  called : (x : _) → code.account.Reads.Learnt tt (b, (m, tt)) t x → AccountCalled b m t

-- Look was called on a book, and answered what its contract allows
pub data LookCalled (b : Book) (m : ℕ) (t : Looked) : Type 0 where
  called : (x : _) → code.look.Reads.Learnt tt (b, (m, tt)) t x → LookCalled b m t

-- Again was called on a book with the words ws lent, and answered what its contract allows; the words then are us
pub data AgainCalled (b : Book) : List ℕ → Closed → List ℕ → Type 0 where
  called : (κs : Lfts 1) (lines : MutBor (List ℕ)) (t : Closed) (x : _) → code.again.Reads.Learnt κs (b, (lines, tt)) t x → AgainCalled b lines.now t x.1.0.now

-- M13, Month: two calls end in the same answer number, the same book and the same payouts
pub record EndAlike (x y : Outcome) : Type 0 where
  pub answer : x.answer ≡ y.answer
  pub book : x.book ≡ y.book
  pub payouts : x.words ≡ y.words

-- M13, Month: a Month that is given these amounts and one that is given the empty list end alike, on this book and with
-- equal places for payouts, whether they are accepted or refused
abbrev pub SameAsEmpty : Book → List ℕ → Type 0
SameAsEmpty b amounts = (payouts : List ℕ) (typed empty : Outcome) → Called b (Call.month amounts payouts) typed → Called b (Call.month [] payouts) empty → EndAlike typed empty

-- G3, Promises: what is promised of a run
pub record Promise (s : Run) : Type 1 where
  -- J3: each call, and the Open, is answered as the rules give it, with every word of its lent lists: all of this, and
  -- the book, is worked out from the Open and the calls alone
  pub answered : s ≡ played s.opening (calls_of s.past)
  -- J10 and J15: Status, called after the list, of each obligation of the list
  pub status : (n : ℕ) (i : Instructed) → instructed_in n s.past ≡ Some i → (t : Shown) → StatusCalled s.book n t →
      StatusShows s.opening s.past n i t
  -- J11: Account, called after the list, of each member
  pub account : (m : ℕ) → m < member_count → (t : Balance) → AccountCalled s.book m t → AccountShows s.past m t
  -- J12: what the 32 Account calls show adds up to zero
  pub zero_sum : (t : ℕ → Balance) → ((m : ℕ) → m < member_count → AccountCalled s.book m (t m)) →
      balance (table member_count (λ m. (t m).cents)) ≡ pos 0
  -- L3: Look, called after the list, of each member
  pub look : (m : ℕ) → m < member_count → (t : Looked) → LookCalled s.book m t → LookShows s.opening s.past m t
  -- J16: Again, called after the list with any lent list, gives what the latest accepted Close gave
  pub again : (ws us : List ℕ) (t : Closed) → AgainCalled s.book ws t us → AgainShows s.past ws us t
  -- L5 and N5: Status, Account, Look and Again, called after the list, return the book that they were given, whatever
  -- their arguments and lent lists are
  pub status_same : (n : ℕ) (t : Shown) → StatusCalled s.book n t → t.book ≡ s.book
  pub account_same : (m : ℕ) (t : Balance) → AccountCalled s.book m t → t.book ≡ s.book
  pub look_same : (m : ℕ) (t : Looked) → LookCalled s.book m t → t.book ≡ s.book
  pub again_same : (ws us : List ℕ) (t : Closed) → AgainCalled s.book ws t us → t.book ≡ s.book
  -- J13 and J14: each accepted Month pays out exactly what it collected, and each creditor gets its share
  pub months : EveryMonth s.past
  -- J17: after the list, a Month that is given what each member owes by the events ends as an empty one does
  pub typed_or_empty : SameAsEmpty s.book (debts_in s.past)
  -- C7 and C8: at each accepted Close the offers for each obligation in its buy-in days are taken in the order of C7
  pub buy_ins : EveryBuyIn s.opening s.past
  -- J18: at each accepted Close the cents of each penalty are those of its price and of the rate in force by the events
  pub penalties : EveryPenalty s.opening s.past
  -- B9: every obligation whose age is above grace has had its Close at age = grace, which left a price for the cap
  pub cap_prices : EveryCapPrice s.opening s.past
  -- G1: every call may follow, with any arguments and lent lists, since what its contract requires holds
  pub may : (c : Call) → May s.book c
  pub may_status : (n : ℕ) → code.status.Reads.Asked tt (s.book, (n, tt))
  pub may_account : (m : ℕ) → code.account.Reads.Asked tt (s.book, (m, tt))
  pub may_look : (m : ℕ) → code.look.Reads.Asked tt (s.book, (m, tt))

-- What a caller of a function has, in every model of the machine and in every program that has the function's code,
-- whatever the name of the function is there: if the first statement holds of the arguments, a call of the function
-- ends, and the second statement then holds of the arguments, the result and the lists as the call ended.
abbrev pub Gives : (n : ℕ) (ps : List (ParamKind n)) (r : ResultKind n) → CodeOf → Callee → In n ps → Out n ps r → Type 2
Gives n ps r body name asked learnt = (w : World) → Wired w.𝓡.env body → (γ : Env) (k : Callee) → γ k ≡ w.𝓡.env name →
    Known w.𝓛 (Over w.𝓛 w.𝓜 w.𝓡 γ)
    n ps r asked learnt k

-- What is said of the code of a function. It meets its contract as it is written in the source. So where `Asked` holds
-- of the arguments, a call of the code ends, and `Learnt` holds of its result and lists: the steps of a run are what
-- the code gives.
pub record Code (M : Type 1) (statement : Type 1 → Type 2) (n : ℕ) (ps : List (ParamKind n)) (r : ResultKind n) (body : CodeOf) (name : Callee) (asked : In n ps) (learnt : Out n ps r) : Type 2 where
  pub met : statement M
  pub gives : Gives n ps r body name asked learnt

-- G3, Promises: the promise on whole journals
pub record Demand3 (M : Type 1) : Type 2 where
  -- every run of the functions, and so every prefix of one, keeps what is promised
  pub whole : (s : Run) → Ran s → Promise s
  -- every Open and every list of calls has a run
  pub each : (o : Opening) (cs : List Call) → Ran (played o cs)
  -- G1: an Open may come first, with any arguments and any lent list, since its contract requires nothing
  pub may_open : (first : Day) (κs : Lfts 1) (closed : Bor (List ℕ)) (terms : ℕ) → code.«open».Reads.Asked κs (first, (closed, (terms, tt)))
  -- M13: on every book that a call takes, a Month that is given what each account owes ends as an empty one does
  pub owed_or_empty : (b : Book) → Valid b → SameAsEmpty b (debts b.ledger.accounts)
  -- the code of each function
  pub open_code : Code M code.«open».Statement.statement 1 code.«open».Kinds.ps code.«open».Kinds.r code.«open».Symbol.code code.«open».Symbol.name code.«open».Reads.Asked code.«open».Reads.Learnt
  pub enter_code : Code M code.enter.Statement.statement 0 code.enter.Kinds.ps code.enter.Kinds.r code.enter.Symbol.code code.enter.Symbol.name code.enter.Reads.Asked code.enter.Reads.Learnt
  pub withdraw_code : Code M code.withdraw.Statement.statement 0 code.withdraw.Kinds.ps code.withdraw.Kinds.r code.withdraw.Symbol.code code.withdraw.Symbol.name code.withdraw.Reads.Asked code.withdraw.Reads.Learnt
  pub cancel_code : Code M code.cancel.Statement.statement 0 code.cancel.Kinds.ps code.cancel.Kinds.r code.cancel.Symbol.code code.cancel.Symbol.name code.cancel.Reads.Asked code.cancel.Reads.Learnt
  pub deliver_code : Code M code.deliver.Statement.statement 0 code.deliver.Kinds.ps code.deliver.Kinds.r code.deliver.Symbol.code code.deliver.Symbol.name code.deliver.Reads.Asked code.deliver.Reads.Learnt
  pub offer_code : Code M code.offer.Statement.statement 0 code.offer.Kinds.ps code.offer.Kinds.r code.offer.Symbol.code code.offer.Symbol.name code.offer.Reads.Asked code.offer.Reads.Learnt
  pub rate_code : Code M code.rate.Statement.statement 0 code.rate.Kinds.ps code.rate.Kinds.r code.rate.Symbol.code code.rate.Symbol.name code.rate.Reads.Asked code.rate.Reads.Learnt
  pub close_code : Code M code.close.Statement.statement 1 code.close.Kinds.ps code.close.Kinds.r code.close.Symbol.code code.close.Symbol.name code.close.Reads.Asked code.close.Reads.Learnt
  pub again_code : Code M code.again.Statement.statement 1 code.again.Kinds.ps code.again.Kinds.r code.again.Symbol.code code.again.Symbol.name code.again.Reads.Asked code.again.Reads.Learnt
  pub month_code : Code M code.month.Statement.statement 2 code.month.Kinds.ps code.month.Kinds.r code.month.Symbol.code code.month.Symbol.name code.month.Reads.Asked code.month.Reads.Learnt
  pub status_code : Code M code.status.Statement.statement 0 code.status.Kinds.ps code.status.Kinds.r code.status.Symbol.code code.status.Symbol.name code.status.Reads.Asked code.status.Reads.Learnt
  pub account_code : Code M code.account.Statement.statement 0 code.account.Kinds.ps code.account.Kinds.r code.account.Symbol.code code.account.Symbol.name code.account.Reads.Asked code.account.Reads.Learnt
  pub look_code : Code M code.look.Statement.statement 0 code.look.Kinds.ps code.look.Kinds.r code.look.Symbol.code code.look.Symbol.name code.look.Reads.Asked code.look.Reads.Learnt
