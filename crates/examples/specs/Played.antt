-- The examples as journals: an Open, calls one after another on its book, and what they answer.
use Rattle.std.specs.Prelude.{ℕ, ◌+◌, ◌*◌, List, [], ◌∷◌, ◌++◌, get_or, take, replicate}
use Rattle.calendar.specs.Closed.{day}
use Rattle.ledger.specs.Lines.{words_in_line, fewest_words}
use Rattle.closing.specs.Lines.{flat, lines_read}
use Rattle.book.specs.declared.Book.{Book}
use Rattle.journal.specs.Calls.{Opening, Call, enter, deliver, offer, rate, close, again, month, Event}
use Rattle.journal.specs.Facts.{reported, facts_of}
use Rattle.journal.specs.Played.{outcome_of, event_of, begun}

-- the Open of the journals of the examples: the book begins on day 2 without closed days. It has terms 1, so notice,
-- grace and last are 7, 10 and 13 clearing days.
abbrev pub opening : Opening
opening = record { first = day 2; closed = []; terms = 1 }

-- ---- calls one after another
-- the book after calls, the first of which comes first in the list
abbrev pub book_after : Book → List Call → Book
book_after b [] = b
book_after b (c ∷ later) = book_after (outcome_of b c).book later

-- the calls with what comes of them on a book, in the same order
abbrev pub events_on : Book → List Call → List Event
events_on b [] = []
events_on b (c ∷ later) = event_of b c ∷ events_on (outcome_of b c).book later

-- the answer numbers of events, which are 0 where a call was done
abbrev pub numbers_of : List Event → List ℕ
numbers_of [] = []
numbers_of (e ∷ later) = e.answer ∷ numbers_of later

-- the answer numbers of n calls that are all accepted
abbrev pub accepted : ℕ → List ℕ
accepted n = replicate n 0

-- All that a call answers: its number and its results, and the words of the lines that a Close reports. A refused Close
-- returns 0 as the number of its lines.
abbrev pub answer_of : Event → List ℕ
answer_of e = e.answer ∷ e.results ++ flat (reported (facts_of e.call e.results e.words).ends)

-- all that several calls answer
abbrev pub answers_of : List Event → List ℕ
answers_of [] = []
answers_of (e ∷ later) = answer_of e ++ answers_of later

-- X8 and X12, Settled examples: the answers of Months: the number of each, and what it pays to the first three members
abbrev pub payouts_of : List Event → List ℕ
payouts_of [] = []
payouts_of (e ∷ later) = (e.answer ∷ take 3 e.words) ++ payouts_of later

-- X11, Settled examples: the answer of a Close, an Again or a Month: its number and its results, and the words of the
-- lines that are in its list as it ends
abbrev pub answer_with_lines : Event → List ℕ
answer_with_lines e = e.answer ∷ e.results ++ flat (lines_read (get_or e.results 0 0) e.words)

-- X11, Settled examples: the answers of several of these calls
abbrev pub answers_with_lines : List Event → List ℕ
answers_with_lines [] = []
answers_with_lines (e ∷ later) = answer_with_lines e ++ answers_with_lines later

-- what a journal shows: the answer numbers of the calls that lead to an example, and after them what its own calls
-- answer
abbrev pub shown_from : Opening → (List Event → List ℕ) → List Call → List Call → List ℕ
shown_from o answers lead calls =
    numbers_of (events_on (begun o).book lead) ++ answers (events_on (book_after (begun o).book lead) calls)

-- what a journal shows that begins with the Open of day 2
abbrev pub shown : (List Event → List ℕ) → List Call → List Call → List ℕ
shown = shown_from opening

-- ---- the calls of the examples
-- two legs that match, by which a seller delivers q units to a buyer on a day for a cents
abbrev pub sale_on : ℕ → ℕ → ℕ → ℕ → ℕ → List Call
sale_on d seller buyer q a = enter seller buyer 0 q a (day d) ∷ enter buyer seller 1 q a (day d) ∷ []

-- a sale that is due on day 2
abbrev pub sale : ℕ → ℕ → ℕ → ℕ → List Call
sale = sale_on 2

-- X5 and X6, Settled examples: member 1 instructs to receive 10 units from member 0 for a cents
abbrev pub receives : ℕ → Call
receives a = enter 1 0 1 10 a (day 2)

-- a rate from day 2 on, which is the first day of the book; the Closes of an example use it
abbrev pub from_start : ℕ → Call
from_start r = rate (day 2) r

-- a Close at a price, which is lent 1,152 words
abbrev pub close_at : ℕ → Call
close_at price = close price (replicate fewest_words 0)

-- n Closes at par, each of which moves today on by one clearing day
abbrev pub days_pass : ℕ → List Call
days_pass n = replicate n (close_at 100000)

-- X4, X10 and X14, Settled examples: member 0 sells 10 units to member 1 for 1,000,000 cents and does not deliver. Ten
-- Closes at the ages 0 to 9 lead to the Close at age = grace, which leaves its price; on the next day there can be
-- offers. The rate is 0, so the penalties are 0.
abbrev pub to_buy_in : ℕ → List Call
to_buy_in grace_price = from_start 0 ∷ sale 0 1 10 1000000 ++ days_pass 10 ++ close_at grace_price ∷ []

-- X8, X11 and X12, Settled examples: a Month that collects these cents from member 3
abbrev pub collecting : ℕ → Call
collecting cents = month (0 ∷ 0 ∷ 0 ∷ cents ∷ replicate 28 0) (replicate 32 7)

-- X12, Settled examples: a Month with an empty list of collected amounts
abbrev pub everybody_paid : Call
everybody_paid = month [] (replicate 32 7)

-- ---- the examples
-- X1 and X2, Settled examples: member 0 sells q units for 1,000 cents and does not deliver them on day 2. This is what
-- the Close of that day answers, at this price and a rate of 10.
abbrev pub penalty_played : ℕ → ℕ → List ℕ
penalty_played q price = shown answers_of (from_start 10 ∷ sale 0 1 q 1000) (close_at price ∷ [])

-- X3, Settled examples: member 0 sells 1 unit and never delivers it. The fourteenth Close is the one at age = last, and
-- this is what it answers, at this price.
abbrev pub compensation_played : ℕ → List ℕ
compensation_played price = shown answers_of (from_start 0 ∷ sale 0 1 1 1000 ++ days_pass 13) (close_at price ∷ [])

-- X4, Settled examples: the two offers, of 5 units each
abbrev pub cap_offers : List Call
cap_offers = offer 0 7 5 107998 ∷ offer 0 7 5 107999 ∷ []

-- X4, Settled examples: the Close at age = grace is at 99,999, and all others are at 100,000. Then the offers come.
abbrev pub cap_played : List ℕ
cap_played = shown answers_of (to_buy_in 99999) cap_offers

-- X5 and X6, Settled examples: a leg delivers for a cents. The first leg to receive is above the tolerance; it is
-- accepted and finds no match. The second has the amount 0 and is refused. The third is exactly at the tolerance and
-- matches.
abbrev pub match_played : ℕ → ℕ → ℕ → List ℕ
match_played a above most = shown answers_of (enter 0 1 0 10 a (day 2) ∷ []) (receives above ∷ receives 0 ∷ receives most ∷ [])

-- X7, Settled examples: three Delivers of one unit, one after another
abbrev pub delivers_played : List ℕ
delivers_played = shown answers_of (sale 0 1 3 1000) (deliver 0 1 ∷ deliver 0 1 ∷ deliver 0 1 ∷ [])

-- X8 and X12, Settled examples: at a price of 100,000 and a rate of 10, member 3 owes one cent for each unit that it
-- sold and did not deliver. This is what a Month then pays.
abbrev pub month_played : List Call → Call → List ℕ
month_played sales paid = shown payouts_of (from_start 10 ∷ sales ++ close_at 100000 ∷ []) (paid ∷ [])

-- X10, Settled examples: the three offers
abbrev pub auction_offers : List Call
auction_offers = offer 0 1 7 101000 ∷ offer 0 2 5 100500 ∷ offer 0 3 7 101000 ∷ []

-- X14, Settled examples: the two offers at one price, of which the later one is the larger
abbrev pub equal_offers : List Call
equal_offers = offer 0 1 10 101000 ∷ offer 0 2 12 101000 ∷ []

-- X10 and X14, Settled examples: supplier, quantity and cents of one line in the list of a Close; the first line has
-- number 0
abbrev pub bought_at : ℕ → List ℕ → List ℕ
bought_at line words = get_or words (words_in_line * line + 4) 0 ∷ get_or words (words_in_line * line + 2) 0 ∷ get_or words (words_in_line * line + 3) 0 ∷ []

-- X10 and X14, Settled examples: the offers come on the first day of the buy-in, and then the Close of that day
abbrev pub auction_played : List Call → List ℕ
auction_played offers = shown answers_of (to_buy_in 100000) (offers ++ close_at 100000 ∷ [])

-- X8, X11 and X12, Settled examples: member 3 sells 200 units to member 0 and 100 units to member 1, due on day 2
abbrev pub two_sales : List Call
two_sales = sale 3 0 200 1000 ++ sale 3 1 100 1000

-- X11, Settled examples: an Again that is lent 1,152 words
abbrev pub again_lent : Call
again_lent = again (replicate fewest_words 0)

-- X11, Settled examples: the Close of day 2, a Month, and an Again
abbrev pub reprint_played : List ℕ
reprint_played = shown answers_with_lines (from_start 10 ∷ two_sales) (close_at 100000 ∷ collecting 100 ∷ again_lent ∷ [])

-- X12, Settled examples: two Months side by side, one that collects all that member 3 owes and one for which everybody
-- paid
abbrev pub months_played : List ℕ
months_played = month_played two_sales (collecting 300) ++ month_played two_sales everybody_paid

-- X15, Settled examples: the Open of day 6, a Friday
abbrev pub opened_friday : Opening
opened_friday = record { first = day 6; closed = []; terms = 1 }

-- X15, Settled examples: a rate of 20 is entered with the starting day 7, and then one of 10 with the starting day 6.
-- Member 3 sells 1,000 units to member 0, due on day 6.
abbrev pub sold_friday : List Call
sold_friday = rate (day 7) 20 ∷ rate (day 6) 10 ∷ sale_on 6 3 0 1000 1000

-- X15, Settled examples: the Closes of day 6 and of day 9, the Monday after it
abbrev pub rates_played : List ℕ
rates_played = shown_from opened_friday answers_of sold_friday (close_at 100000 ∷ close_at 100000 ∷ [])
