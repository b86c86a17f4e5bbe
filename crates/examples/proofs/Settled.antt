-- The settled examples of docs/RULES.md hold of the definitions.
use Rattle.std.specs.Prelude.{Some}
use Prim.Native.Nat.{ℕ, ◌-◌, ◌≤◌, ◌<◌}
use native.Mathlib.Omega.{arith}
use mathlib.Core.Path.{◌≡◌, refl, ap, ap₂, ◌∙◌}
use mathlib.Core.Bool.{true}
use lib.ListN.{get_or, take, replicate}
use lib.Seq.{get_or-take}
use mathlib.Core.List.{List, [], ◌∷◌, ◌++◌, append-nil}
use Rattle.basics.specs.Lists.{total, table_from, count_below, Every}
use Rattle.basics.specs.Lists.Every.{nobody, also}
use Rattle.basics.specs.Refusals.{answer}
use Rattle.basics.proofs.Refusals.{by_number}
use Rattle.calendar.specs.declared.Day.{Day}
use Rattle.calendar.specs.Closed.{day, last_day, rises_from, closed_refused, closed_days, listed_days, among}
use Rattle.calendar.specs.Days.{clearing_days, clearing, clearing_within, next_within, next_after, nth_after, age_at}
use Rattle.calendar.proofs.Ages.{age_nth}
use Rattle.holidays.specs.Years.{is_leap, months_of, days_of_years, new_year, date_of}
use Rattle.holidays.specs.Easter.{sun_correction, moon_correction, plain_epact, epact, march_moon, full_moon, sunday_from, easter}
use Rattle.holidays.specs.Target.{good_friday, easter_monday, closed_in_year, closed_from, target_days, target_refusals, target, target_words}
use Rattle.amounts.specs.Quotients.{rounded}
use Rattle.amounts.specs.Amounts.{value, penalty, compensation, due_for, cash, cash_of_each, charge, tolerance, amounts_match, above_cap}
use Rattle.netting.specs.Accounts.{debited, credited, transferred}
use Rattle.netting.specs.Shares.{floor_share, remainder, cents_left, comes_before, rank, extra_cent, share, shares}
use Rattle.offers.specs.Rank.{overtakes, inserted_by, ranked_by}
use Rattle.offers.specs.Held.{no_offers}
use Rattle.offers.specs.BuyIn.{offers_for, with_given, given_by, given}
use Rattle.instructions.specs.Match.{fits, first_fit, lowest_fit}
use Rattle.ledger.specs.Parts.{settled_parts}
use Rattle.ledger.specs.Obligations.{with_grace_price, cash_of, is_due, moving, last_of, sides}
use Rattle.ledger.specs.Lines.{fewest_words}
use Rattle.ledger.specs.Ledger.{obligation_at, with_obligation, fetched}
use Rattle.reprint.specs.Kept.{kept_from}
use Rattle.book.specs.Book.{with_day, with_last, age_of}
use Rattle.book.specs.Open.{open_refusals, opened}
use Rattle.book.specs.Instructing.{obligation_of, entered_alone, entered_with, enter, deliver_refusals, deliver}
use Rattle.refusals.specs.Calls.{fetch_outcome, enter_refusals, deliver_refusals_of}
use Rattle.book.specs.Buying.{offer_refusals, offer}
use Rattle.rates.specs.Rows.{holds, with_row, entered_rows, place_of, with_rate}
use Rattle.rates.specs.Force.{has_started, or_later, in_force}
use Rattle.refusals.specs.Calls.{offer_refusals_in, offer_refusals_of, last_kept, no_place, rate_refusals, close_refusals_in, close_refusals, again_refusals}
use Rattle.book.specs.Rating.{rated}
use Rattle.book.specs.Close.{close_by, close, close_words}
use Rattle.book.specs.Again.{again, again_words}
use Rattle.book.specs.Month.{month_book, month_answer, month}
use Rattle.closing.specs.Lines.{penalty_kind, flat, written, lines_read, then}
use Rattle.closing.specs.Stages.{plain_line, priced, penalty_on, measures_at, penalised, notice_at, bought_all, buy_in_at, compensated, compensated_at}
use Rattle.closing.specs.Stages.{bought_from as bought_offer}
use Rattle.closing.specs.Close.{course, stages, closed_one, rows_up_to, lines_up_to, fined, accounts_up_to}
use Rattle.payments.specs.Month.{over_collected, month_refusals, paid_out}
use Rattle.book.specs.declared.Book.{Book}
use Rattle.book.specs.declared.Done.{Done}
use Rattle.book.specs.Instructing.{done_refused}
use Rattle.journal.specs.Calls.{Call}
use Rattle.journal.specs.Played.{outcome_of, event_of, begun}
use Rattle.examples.specs.Played.{opening, book_after, events_on, numbers_of, accepted, answer_of, answers_of, shown, sale, from_start, close_at, days_pass, to_buy_in, compensation_played, cap_offers, cap_played, match_played, delivers_played, auction_offers, equal_offers, auction_played, collecting, everybody_paid, month_played, answer_with_lines, answers_with_lines, two_sales, again_lent, reprint_played, bought_at, opened_friday, sold_friday, rates_played}
use Rattle.examples.specs.Table.{table, bought_from, nth_day, day_number, one_of_three, three_cash, compensated_for, bought_in_two, bought_in_one, two_penalties, paid_in_full, one_penalty, target_shown}

-- the n-th clearing day is found by counting the clearing days up to it
nth : (cs : List Day) (j e n : ℕ) → j ≤ e → e ≤ last_day → clearing cs (day e) ≡ true → clearing_within cs j (e - j) ≡ n →
    nth_after cs (day j) (clearing_days n) ≡ Some (day e)
unfolding age_at
nth cs j e n h m q c = (age_nth cs (day j) (day e) n h m q).0 (λ i. clearing_days (c i))

pub thirtieth : nth_after [] (day 2) (clearing_days 30) ≡ Some (day 44)
unfolding clearing clearing_within among
thirtieth = nth [] 2 44 30 (omega arith) (omega arith) refl refl

pub thirty_fifth : nth_after [] (day 2) (clearing_days 35) ≡ Some (day 51)
unfolding clearing clearing_within among
thirty_fifth = nth [] 2 51 35 (omega arith) (omega arith) refl refl

pub thirtieth_after_closed : nth_after (day 44 ∷ []) (day 2) (clearing_days 30) ≡ Some (day 45)
unfolding clearing clearing_within among
thirtieth_after_closed = nth (day 44 ∷ []) 2 45 30 (omega arith) (omega arith) refl refl

example_9 : nth_day [] 2 30 ++ nth_day [] 2 35 ++ nth_day (day 44 ∷ []) 2 30 ≡ 44 ∷ 51 ∷ 45 ∷ []
example_9 = λ i. day_number (thirtieth i) ++ day_number (thirty_fifth i) ++ day_number (thirtieth_after_closed i)

-- the rules that the rows are worked out by; a proof that unfolds this name unfolds them all
unfoldable rules : ℕ
unfolding total table_from count_below rounded value penalty compensation due_for cash cash_of_each charge tolerance amounts_match above_cap floor_share remainder cents_left comes_before rank extra_cent share shares overtakes inserted_by ranked_by offers_for with_given given_by given bought_from among clearing clearing_within age_at closed_days listed_days closed_refused rises_from answer opened open_refusals age_of enter_refusals obligation_of entered_alone entered_with enter deliver_refusals deliver_refusals_of deliver fetch_outcome offer_refusals offer_refusals_in offer_refusals_of offer fits first_fit lowest_fit settled_parts cash_of moving last_of sides holds place_of with_row entered_rows with_rate has_started or_later in_force last_kept no_place rate_refusals rated close close_by close_words close_refusals close_refusals_in again again_words again_refusals next_after next_within flat then written course stages closed_one rows_up_to lines_up_to fined accounts_up_to priced penalty_on measures_at penalised notice_at bought_offer bought_all buy_in_at compensated compensated_at is_due paid_out month month_refusals over_collected fetched lines_read debited credited transferred
rules = 0

-- ---- journals of many days
-- the Open of the journals is accepted
pub opening_accepted : (opened opening.first opening.closed opening.terms).answer ≡ 0
unfolding rules
opening_accepted = refl

-- the book once a rate of 0 and a sale of q units for a cents are entered
abbrev sold : ℕ → ℕ → Book
sold q a = book_after (begun opening).book (from_start 0 ∷ sale 0 1 q a)

-- The book of one obligation on a later day: today is that day, and this is the price of the Close at age = grace. The
-- book keeps the line of the latest Close, a penalty of 0 cents.
abbrev on_day : ℕ → ℕ → Book → Book
on_day today grace_price b =
    let o = obligation_at b.ledger 0 in
    with_last (kept_from (plain_line penalty_kind 0 o.parts.outstanding 0 ∷ []))
    (with_day (record { today = day today; close_since = true; has_closed = true }) (with_obligation 0 (with_grace_price grace_price o) b.ledger) b)

-- what a journal shows that goes on from a book: the numbers so far, those of the calls that lead on, and the answers
abbrev goes_on : List Call → List Call → List ℕ → Book → List ℕ
goes_on lead calls numbers b = numbers ++ numbers_of (events_on b lead) ++ answers_of (events_on (book_after b lead) calls)

-- ten days after day 2 are accepted and lead to day 16, on which the age is grace
ten_accepted : numbers_of (events_on (begun opening).book (from_start 0 ∷ sale 0 1 10 1000000 ++ days_pass 10)) ≡ accepted 13
unfolding rules
ten_accepted = refl

ten_later : book_after (sold 10 1000000) (days_pass 10) ≡ on_day 16 0 (sold 10 1000000)
unfolding rules
ten_later = refl

ten_days : (lead calls : List Call) → shown answers_of (from_start 0 ∷ sale 0 1 10 1000000 ++ days_pass 10 ++ lead) calls
    ≡ goes_on lead calls (accepted 13) (on_day 16 0 (sold 10 1000000))
ten_days lead calls = ap₂ (goes_on lead calls) ten_accepted ten_later

-- thirteen days after day 2 are accepted and lead to day 19, on which the age is last
thirteen_accepted : numbers_of (events_on (begun opening).book (from_start 0 ∷ sale 0 1 1 1000 ++ days_pass 13)) ≡ accepted 16
unfolding rules
thirteen_accepted = refl

thirteen_later : book_after (sold 1 1000) (days_pass 13) ≡ on_day 19 100000 (sold 1 1000)
unfolding rules
thirteen_later = refl

thirteen_days : (calls : List Call) → shown answers_of (from_start 0 ∷ sale 0 1 1 1000 ++ days_pass 13) calls
    ≡ goes_on [] calls (accepted 16) (on_day 19 100000 (sold 1 1000))
thirteen_days calls = ap₂ (goes_on [] calls) thirteen_accepted thirteen_later

-- X3, Settled examples: the Close on that day
last_day_lem : (goes_on [] (close_at 100005 ∷ []) (accepted 16) (on_day 19 100000 (sold 1 1000)) ≡ accepted 16 ++ compensated_for 10001)
    × (goes_on [] (close_at 100004 ∷ []) (accepted 16) (on_day 19 100000 (sold 1 1000)) ≡ accepted 16 ++ compensated_for 10000)
unfolding rules
last_day_lem = (refl, refl)

example_3 : (compensation_played 100005 ≡ accepted 16 ++ compensated_for 10001)
    × (compensation_played 100004 ≡ accepted 16 ++ compensated_for 10000)
example_3 = (thirteen_days (close_at 100005 ∷ []) ∙ last_day_lem.0, thirteen_days (close_at 100004 ∷ []) ∙ last_day_lem.1)

-- X4, Settled examples: the Close at age = grace, and the offers of the next day
capped : goes_on (close_at 99999 ∷ []) cap_offers (accepted 13) (on_day 16 0 (sold 10 1000000)) ≡ accepted 14 ++ 0 ∷ 18 ∷ []
unfolding rules
capped = refl

pub example_4 : cap_played ≡ accepted 14 ++ 0 ∷ 18 ∷ []
example_4 = ten_days (close_at 99999 ∷ []) cap_offers ∙ capped

-- X10 and X14, Settled examples: the Close at age = grace, the offers of the next day and the Close of that day
abbrev auction_from : List Call → List ℕ
auction_from offers =
    goes_on (close_at 100000 ∷ []) (offers ++ close_at 100000 ∷ []) (accepted 13) (on_day 16 0 (sold 10 1000000))

bought : (auction_from auction_offers ≡ accepted 17 ++ bought_in_two)
    × (auction_from equal_offers ≡ accepted 16 ++ bought_in_one)
unfolding rules
bought = (refl, refl)

auction : (offers : List Call) → auction_played offers ≡ auction_from offers
auction offers = ten_days (close_at 100000 ∷ []) (offers ++ close_at 100000 ∷ [])

pub example_10 : auction_played auction_offers ≡ accepted 17 ++ bought_in_two
example_10 = auction auction_offers ∙ bought.0

pub example_14 : auction_played equal_offers ≡ accepted 16 ++ bought_in_one
example_14 = auction equal_offers ∙ bought.1

-- ---- journals of one day
-- X5 and X6, Settled examples
pub example_5 : match_played 10000000 10000201 10000200 ≡ accepted 1 ++ one_of_three
unfolding rules
example_5 = refl

pub example_6 : match_played 10000001 10002502 10002501 ≡ accepted 1 ++ one_of_three
unfolding rules
example_6 = refl

-- X7, Settled examples
pub example_7 : delivers_played ≡ accepted 2 ++ three_cash
unfolding rules
example_7 = refl

-- X8, Settled examples: the first of its two Months
example_8 : month_played two_sales (collecting 100) ≡ accepted 6 ++ 0 ∷ 67 ∷ 33 ∷ 0 ∷ []
unfolding rules
example_8 = refl

-- an accepted Month leaves the book with its accounts at zero
month_leaves : (b : Book) (cs : List ℕ) (places : ℕ) → (month b cs places).answer ≡ 0 → (month b cs places).book ≡ month_book b
unfolding month
month_leaves b cs places =
    by_number (λ (r : Done). r.answer ≡ 0 → r.book ≡ month_book b) (month_answer b cs places) _ (done_refused b) (λ z e. absurd (z e)) (λ z e. refl)

-- X11, Settled examples: the book of its sales after the Close, which is the book of the first Month of X8
abbrev pub closed_once : Book
closed_once = book_after (begun opening).book (from_start 10 ∷ two_sales ++ close_at 100000 ∷ [])

-- a Month answers its number alone
month_alone : (b : Book) → answer_with_lines (event_of b (collecting 100)) ≡ (outcome_of b (collecting 100)).answer ∷ []
unfolding flat lines_read table_from
month_alone b = refl

-- what the journal shows, where this is what the Month answers, and it leaves this book
abbrev reprinted : List ℕ → Book → List ℕ
reprinted answer b =
    numbers_of (events_on (begun opening).book (from_start 10 ∷ two_sales))
    ++ (answer_with_lines (event_of (book_after (begun opening).book (from_start 10 ∷ two_sales)) (close_at 100000)) ++ (answer ++ answers_with_lines (events_on b (again_lent ∷ []))))

reprint_lines : reprinted (0 ∷ []) (month_book closed_once) ≡ accepted 5 ++ two_penalties ++ (0 ∷ []) ++ two_penalties
unfolding rules
reprint_lines = refl

-- the Month is accepted, and this is the book after it
accepted_month : (outcome_of closed_once (collecting 100)).answer ≡ 0
accepted_month = ap (λ (l : List ℕ). get_or l 6 0) example_8

after_month : (outcome_of closed_once (collecting 100)).book ≡ month_book closed_once
after_month = month_leaves closed_once _ _ accepted_month

pub example_11 : reprint_played ≡ accepted 5 ++ two_penalties ++ (0 ∷ []) ++ two_penalties
example_11 = ap₂ reprinted (month_alone closed_once ∙ ap (λ (n : ℕ). n ∷ []) accepted_month) after_month ∙ reprint_lines

-- X11, Settled examples: how many lines an Again gives, and the cents of the first two lines that then stand in its
-- list
abbrev pub count_and_cents : Book → List ℕ
count_and_cents b =
    let words = again_words b (replicate fewest_words 0) in
    (again b fewest_words).count ∷ get_or words 3 0 ∷ get_or words 9 0 ∷ []

again_there : count_and_cents (month_book closed_once) ≡ 2 ∷ 200 ∷ 100 ∷ []
unfolding rules
again_there = refl

pub example_11_words : count_and_cents (outcome_of closed_once (collecting 100)).book ≡ 2 ∷ 200 ∷ 100 ∷ []
example_11_words = ap count_and_cents after_month ∙ again_there

-- a place among those that are shown of a list
pub taken_place : (n : ℕ) (ws : List ℕ) (m : ℕ) → m < n → get_or (take n ws ++ []) m 0 ≡ get_or ws m 0
taken_place n ws m h = rw (append-nil (take n ws)) (get_or-take n ws m 0 h)

-- X12, Settled examples: the Month that collects all that is owed, and the Month for which everybody paid
pub example_12 : (month_played two_sales (collecting 300) ≡ paid_in_full) × (month_played two_sales everybody_paid ≡ paid_in_full)
unfolding rules
example_12 = (refl, refl)

-- X10 and X14, Settled examples: the list of the Close that follows these offers, as it ends
abbrev pub list_after : List Call → List ℕ
list_after offers = close_words (book_after (begun opening).book (to_buy_in 100000 ++ offers)) 100000 (replicate fewest_words 0)

-- the same list, from the book at age = grace
abbrev list_from : List Call → Book → List ℕ
list_from offers b = close_words (book_after b (close_at 100000 ∷ offers)) 100000 (replicate fewest_words 0)

lines_there : (bought_at 1 (list_from auction_offers (on_day 16 0 (sold 10 1000000))) ≡ 2 ∷ 5 ∷ 2500 ∷ [])
    × (bought_at 2 (list_from auction_offers (on_day 16 0 (sold 10 1000000))) ≡ 1 ∷ 5 ∷ 5000 ∷ [])
    × (bought_at 1 (list_from equal_offers (on_day 16 0 (sold 10 1000000))) ≡ 1 ∷ 10 ∷ 10000 ∷ [])
unfolding rules
lines_there = (refl, refl, refl)

-- what stands in a line of the list
line_read : (line : ℕ) (offers : List Call) → bought_at line (list_after offers) ≡ bought_at line (list_from offers (on_day 16 0 (sold 10 1000000)))
line_read line offers = ap (λ (b : Book). bought_at line (list_from offers b)) ten_later

pub example_10_lines : (bought_at 1 (list_after auction_offers) ≡ 2 ∷ 5 ∷ 2500 ∷ []) × (bought_at 2 (list_after auction_offers) ≡ 1 ∷ 5 ∷ 5000 ∷ [])
example_10_lines = (line_read 1 auction_offers ∙ lines_there.0, line_read 2 auction_offers ∙ lines_there.1)

pub example_14_line : bought_at 1 (list_after equal_offers) ≡ 1 ∷ 10 ∷ 10000 ∷ []
example_14_line = line_read 1 equal_offers ∙ lines_there.2

-- X15, Settled examples: the book of day 6 with its rates and its sale
abbrev pub friday : Book
friday = book_after (begun opened_friday).book sold_friday

-- the book after the Close of day 6: today is day 9, and the penalty has passed from member 3 to member 0
abbrev monday : Book
monday =
    with_last (kept_from (plain_line penalty_kind 0 1000 1000 ∷ []))
    (with_day (record { today = day 9; close_since = true; has_closed = true }) (record {
      obligations = friday.ledger.obligations;
      count = 1;
      offers = no_offers;
      accounts = transferred 3 0 1000 friday.ledger.accounts;
    }) friday)

to_monday : (outcome_of friday (close_at 100000)).book ≡ monday
unfolding rules
to_monday = refl

-- what the journal shows, if this is the book after the Close of day 6
abbrev friday_and : Book → List ℕ
friday_and b = numbers_of (events_on (begun opened_friday).book sold_friday) ++ (answer_of (event_of friday (close_at 100000)) ++ answers_of (events_on b (close_at 100000 ∷ [])))

both_days : friday_and monday ≡ accepted 4 ++ one_penalty 1000 ++ one_penalty 2000
unfolding rules
both_days = refl

pub example_15 : rates_played ≡ accepted 4 ++ one_penalty 1000 ++ one_penalty 2000
example_15 = ap friday_and to_monday ∙ both_days

-- the cents in the lists of the two Closes as they end, and how many lines the second one has
pub example_15_words : (get_or (close_words friday 100000 (replicate fewest_words 0)) 3 0 ≡ 1000)
    × ((close (close friday 100000 fewest_words).book 100000 fewest_words).count ≡ 1)
    × (get_or (close_words (close friday 100000 fewest_words).book 100000 (replicate fewest_words 0)) 3 0 ≡ 2000)
unfolding rules
example_15_words = (refl, refl, refl)

-- X13, Settled examples: the closed days of 2000
pub example_13 : target_shown 2000 ≡ 0 ∷ 6 ∷ 0 ∷ 111 ∷ 114 ∷ 121 ∷ 359 ∷ 360 ∷ 9 ∷ []
unfolding total is_leap months_of days_of_years new_year date_of sun_correction moon_correction plain_epact epact march_moon full_moon sunday_from easter
    good_friday easter_monday closed_in_year closed_from target_days target_refusals target target_words answer
example_13 = refl

-- ---- the table
-- in every row, what the definitions give is what is settled
pub settled : Every (λ r. r.computed ≡ r.settled) table
unfolding rules
settled =
    also refl (also refl (also refl (also refl (also refl (also refl (also refl (also refl (also refl (also example_9 (also refl (also refl (also refl (also refl (also refl (also example_3.0 (also example_3.1 (also example_4 (also example_5 (also example_6 (also example_7 (also example_8 (also refl (also example_10 (also example_14 (also example_11 (also (ap₂ ◌++◌ example_12.0 example_12.1) (also refl (also example_15 (also example_13 nobody)))))))))))))))))))))))))))))
