-- The calls that lines ask for: the book that each returns, if it takes one, and its answer. The arguments are in the
-- order of docs/JOURNAL.md, Lines in, and the results are in the order of its chapter Lines out.
use Rattle.std.specs.Prelude.{ℕ, ◌≡◌, List, [], ◌∷◌, ◌++◌, get_or, drop, replicate}
use Rattle.basics.specs.Lists.{between}
use Rattle.calendar.specs.Closed.{day}
use Rattle.holidays.specs.declared.DaysWritten.{DaysWritten}
use Rattle.holidays.specs.Target.{target, target_words}
use Rattle.book.specs.declared.Book.{Book}
use Rattle.book.specs.declared.Opened.{Opened}
use Rattle.book.specs.declared.Entered.{Entered}
use Rattle.book.specs.declared.Done.{Done}
use Rattle.book.specs.declared.Cancelled.{Cancelled}
use Rattle.book.specs.declared.Delivered.{Delivered}
use Rattle.book.specs.declared.Closed.{Closed}
use Rattle.book.specs.declared.Shown.{Shown}
use Rattle.book.specs.declared.Balance.{Balance}
use Rattle.book.specs.declared.Looked.{Looked}
use Rattle.book.specs.Open.{opened}
use Rattle.book.specs.Instructing.{enter}
use Rattle.book.specs.Showing.{status, account, Looks}
use Rattle.answers.specs.declared.Answer.{Answer}
use Rattle.answers.specs.Told.{nothing, numbers_told, balance_told, closed_told, words_told}
use Rattle.journal.specs.Calls.{Opening, Call}
use Rattle.journal.specs.Played.{Outcome, outcome_of}
use Rattle.reading.specs.declared.Name.{Name}
use Rattle.settle.specs.declared.calls.Asked.{Asked}
use Rattle.settle.specs.declared.calls.Played.{Played}

-- a book and an answer, put together
abbrev pub played_with : Book → Answer → Played
played_with b answer = record { book = b; answer = answer }

-- what comes of an Open, as the rules give it
abbrev pub opened_with : Opening → Opened
opened_with o = opened o.first o.closed o.terms

-- the Open whose book is there before the first `open`; it is refused, since no terms have the number 2
abbrev pub refused_opening : Opening
refused_opening = record { first = day 0; closed = []; terms = 2 }

-- what is there before the first line: the book that a refused Open returns, and no answer
abbrev pub at_first : Played
at_first = played_with (opened_with refused_opening).book nothing

-- the list that is among a call's numbers
abbrev pub list_in : Asked → List ℕ → List ℕ
list_in a ns = between a.from a.to ns

-- the words that a call is lent, each filled with the value of its line
abbrev pub lent_to : Asked → List ℕ
lent_to a = replicate a.lent a.fill

-- the words that can be lent, after a call: those that it was lent as it left them, and the others as they were
abbrev pub left_with : Asked → List ℕ → List ℕ → List ℕ
left_with a lent ws = lent ++ drop a.lent ws

-- how the outcome of a call is told: by numbers, by lines in the words that it was lent, or by payouts in these words
pub data Manner : Type 0 where
  by_numbers : Manner
  by_lines : Manner
  by_payouts : Manner

-- a call of a journal, and how its outcome is told
pub record Asking : Type 0 where
  pub call : Call
  pub manner : Manner

-- what a line asks for: an Open, with which another journal begins, a call of the journal, or neither of the two
pub data Request : Type 0 where
  an_open : Opening → Request
  a_call : Asking → Request
  neither : Request

-- what an `open` asks for: an Open with a first day, terms and closed days
abbrev pub open_asked : Asked → List ℕ → Opening
open_asked a ns = record { first = day a.first; closed = list_in a ns; terms = a.second }

-- a request for a call that is answered by numbers
abbrev pub plain : Call → Request
plain c = a_call (record { call = c; manner = by_numbers })

-- what a `close` asks for: a Close that is lent words for its lines
abbrev pub close_asked : Asked → Asking
close_asked a = record { call = Call.close a.first (lent_to a); manner = by_lines }

-- what an `again` asks for: an Again that is lent words for its lines
abbrev pub again_asked : Asked → Asking
again_asked a = record { call = Call.again (lent_to a); manner = by_lines }

-- what a `month` asks for: a Month that is lent words for its payouts
abbrev pub month_asked : Asked → List ℕ → Asking
month_asked a ns = record { call = Call.month (list_in a ns) (lent_to a); manner = by_payouts }

-- What a line asks for, by its name. A line that asks for neither an Open nor a call leaves the book as it is or takes
-- none.
abbrev pub asking_of : Name → Asked → List ℕ → Request
asking_of Name.Open a ns = an_open (open_asked a ns)
asking_of Name.Enter a ns = plain (Call.enter a.first a.second a.third a.fourth a.fifth (day a.sixth))
asking_of Name.Withdraw a ns = plain (Call.withdraw a.first a.second)
asking_of Name.Cancel a ns = plain (Call.cancel a.first a.second)
asking_of Name.Deliver a ns = plain (Call.deliver a.first a.second)
asking_of Name.Offer a ns = plain (Call.offer a.first a.second a.third a.fourth)
asking_of Name.Rate a ns = plain (Call.rate (day a.first) a.second)
asking_of Name.Close a ns = a_call (close_asked a)
asking_of Name.Again a ns = a_call (again_asked a)
asking_of Name.Month a ns = a_call (month_asked a ns)
asking_of Name.Status a ns = neither
asking_of Name.Account a ns = neither
asking_of Name.Look a ns = neither
asking_of Name.Target a ns = neither
asking_of Name.Rules a ns = neither

-- the answer to a call, by the manner in which it is told: the answer number and the results, the lines, or the payouts
unfoldable pub answer_by : Manner → Asked → Outcome → Answer
answer_by by_numbers a o = numbers_told (o.answer ∷ o.results)
answer_by by_lines a o = closed_told o.answer (get_or o.results 0 0) a.lent a.fill
answer_by by_payouts a o = words_told (o.answer ∷ []) a.lent

-- the words that can be lent, after a call whose outcome is told in this manner
unfoldable pub words_by : Manner → Asked → Outcome → List ℕ → List ℕ
words_by by_numbers a o ws = ws
words_by by_lines a o ws = left_with a o.words ws
words_by by_payouts a o ws = left_with a o.words ws

-- the book and the answer after a call
abbrev pub after_call : Book → Asked → Asking → Played
after_call b a k = played_with (outcome_of b k.call).book (answer_by k.manner a (outcome_of b k.call))

-- the words that can be lent, after a call on a book
abbrev pub words_after : Book → Asked → Asking → List ℕ → List ℕ
words_after b a k ws = words_by k.manner a (outcome_of b k.call) ws

-- the book and the answer after an open
abbrev pub after_open : Opened → Played
after_open r = played_with r.book (numbers_told (r.answer ∷ []))

-- the book and the answer after an open with these numbers
abbrev pub opens : Asked → List ℕ → Played
opens a ns = after_open (opened_with (open_asked a ns))

-- the book and the answer after an enter
abbrev pub after_enter : Entered → Played
after_enter r = played_with r.book (numbers_told (r.answer ∷ r.leg ∷ r.obligation ∷ []))

-- the book and the answer after an enter, whose numbers are member, counterparty, side, quantity, amount and intended
-- day
abbrev pub enters : Book → Asked → Played
enters b a = after_enter (enter b a.first a.second a.third a.fourth a.fifth (day a.sixth))

-- the book and the answer after a call whose only result is its answer number
abbrev pub after_done : Done → Played
after_done r = played_with r.book (numbers_told (r.answer ∷ []))

-- the book and the answer after a cancel
abbrev pub after_cancel : Cancelled → Played
after_cancel r = played_with r.book (numbers_told (r.answer ∷ r.moved ∷ []))

-- the book and the answer after a deliver
abbrev pub after_deliver : Delivered → Played
after_deliver r = played_with r.book (numbers_told (r.answer ∷ r.cash ∷ []))

-- the book and the answer after a close or an again that was lent n words, filled with a value
abbrev pub after_close : Closed → ℕ → ℕ → Played
after_close r n value = played_with r.book (closed_told r.answer r.count n value)

-- the answer to a status
abbrev pub shown_as : Shown → Answer
shown_as r =
    numbers_told
    (r.answer ∷ r.quantity ∷ r.parts.delivered ∷ r.parts.bought_in ∷ r.parts.compensated
    ∷ r.parts.cancelled ∷ r.parts.outstanding
    ∷ [])

-- the answer to a status, whose number is an obligation
abbrev pub shows : Book → Asked → Answer
shows b a = shown_as (status b a.first)

-- the answer to an account
abbrev pub balance_as : Balance → Answer
balance_as r = balance_told r.answer r.cents

-- the answer to an account, whose number is a member
abbrev pub balances : Book → Asked → Answer
balances b a = balance_as (account b a.first)

-- the answer to a look
abbrev pub looked_as : Looked → Answer
looked_as r = numbers_told (r.answer ∷ r.obligation ∷ [])

-- The answer to a look, whose number is a member. The rules may allow more than one answer, and this is one that they
-- allow.
pub record LooksAs (b : Book) (a : Asked) (answer : Answer) : Type 0 where
  pub looked : Looked
  pub allowed : Looks b a.first looked
  pub told : answer ≡ looked_as looked

-- the answer to a target: the answer number and how many days were written, and the words that it was lent
abbrev pub written_as : DaysWritten → ℕ → Answer
written_as r lent = words_told (r.answer ∷ r.count ∷ []) lent

-- the answer to a target, whose numbers are the first and the last year
abbrev pub targets : Asked → Answer
targets a = written_as (target a.first a.second a.lent) a.lent

-- the words that can be lent, after a target
abbrev pub words_targeted : Asked → List ℕ → List ℕ
words_targeted a ws = left_with a (target_words a.first a.second (lent_to a)) ws

-- the edition of the rules: the number of the latest change in docs/RULES.md
abbrev pub edition : ℕ
edition = 5

-- the answer to rules: 0 and the edition
abbrev pub edition_told : Answer
edition_told = numbers_told (0 ∷ edition ∷ [])
