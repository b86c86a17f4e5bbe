-- The settled examples of docs/RULES.md, each as rows: its number there, what the definitions give, and what is
-- settled.
use Rattle.std.specs.Prelude.{ℕ, ◌+◌, Bool, List, [], ◌∷◌, ◌++◌, take, replicate, Option, Some, None}
use Rattle.basics.specs.Choice.{pick}
use Rattle.calendar.specs.declared.Day.{Day}
use Rattle.calendar.specs.Closed.{day}
use Rattle.calendar.specs.Days.{clearing_days, nth_after}
use Rattle.holidays.specs.Target.{target, target_words}
use Rattle.amounts.specs.Amounts.{penalty, compensation, cash, cash_of_each, charge, amounts_match, above_cap}
use Rattle.netting.specs.Shares.{shares}
use Rattle.offers.specs.declared.Offer.{Offer}
use Rattle.offers.specs.declared.Given.{Given}
use Rattle.offers.specs.Rank.{ranked}
use Rattle.offers.specs.BuyIn.{given}
use Rattle.rates.specs.Rows.{row_of, entered_rows}
use Rattle.rates.specs.Force.{in_force, rate_of}
use Rattle.examples.specs.Played.{accepted, sale, penalty_played, compensation_played, cap_played, match_played, delivers_played, two_sales, collecting, month_played, auction_offers, equal_offers, auction_played, reprint_played, months_played, rates_played}

-- a row of the table: the number of the example, what the definitions give, and what is settled
pub record Row : Type 0 where
  pub item : ℕ
  pub computed : List ℕ
  pub settled : List ℕ

-- 1 if a test holds, and 0 if not, as examples 5 and 6 show it
abbrev pub as_number : Bool → ℕ
as_number t = pick t 1 0

-- X4, Settled examples: 18 for an offer whose price is above the cap over the price at age = grace, and 0 for one that
-- passes
abbrev pub cap_answer : ℕ → ℕ → ℕ
cap_answer price grace_price = pick (above_cap price grace_price) 18 0

-- the number of a clearing day that was looked for, as a list that is empty if there is none
abbrev pub day_number : Option Day → List ℕ
day_number (Some d) = d.0 ∷ []
day_number None = []

-- the number of a clearing day that was looked for, or 0 if there is none
abbrev pub day_or_none : Option Day → ℕ
day_or_none (Some d) = d.0
day_or_none None = 0

-- X9, Settled examples: the n-th clearing day after j, with these closed days
abbrev pub nth_day : List Day → ℕ → ℕ → List ℕ
nth_day closed j n = day_number (nth_after closed (day j) (clearing_days n))

-- X8, Settled examples: what the first three of 32 members get of c cents
abbrev pub first_shares : ℕ → ℕ → ℕ → ℕ → List ℕ
first_shares c g0 g1 g2 = take 3 (shares c (g0 ∷ g1 ∷ g2 ∷ replicate 29 0))

-- an offer for obligation 0, as in examples 10 and 14
abbrev pub offer_of : ℕ → ℕ → ℕ → Offer
offer_of supplier quantity price = record { obligation = 0; supplier = supplier; quantity = quantity; price = price }

-- X10 and X14, Settled examples: supplier, quantity and charge of each quantity given, of an obligation with amount a
-- and quantity q of which s is settled
unfoldable pub bought_from : ℕ → ℕ → ℕ → List Given → List ℕ
bought_from a q s [] = []
bought_from a q s (g ∷ gs) =
    g.offer.supplier ∷ g.quantity ∷ charge g.quantity g.offer.price (cash a q s (s + g.quantity))
    ∷ bought_from a q (s + g.quantity) gs

-- X10 and X14, Settled examples: supplier, quantity and charge of what these offers give to ten units for 1,000,000
-- cents, none of them settled; the last offer entered comes first
abbrev pub auction_of : List Offer → List ℕ
auction_of entered = bought_from 1000000 10 0 (given 0 10 (ranked entered))

-- X5 and X6, Settled examples: what the three legs answer: leg 1 without a match, a refusal by 3, and leg 2 in
-- obligation 0
abbrev pub one_of_three : List ℕ
one_of_three = (0 ∷ 1 ∷ 0 ∷ []) ++ (3 ∷ 0 ∷ 0 ∷ []) ++ 0 ∷ 2 ∷ 1 ∷ []

-- X7, Settled examples: what the three Delivers answer
abbrev pub three_cash : List ℕ
three_cash = (0 ∷ 333 ∷ []) ++ (0 ∷ 333 ∷ []) ++ 0 ∷ 334 ∷ []

-- X3, Settled examples: what the Close answers: it has two lines, a penalty of 0 cents and the compensation
abbrev pub compensated_for : ℕ → List ℕ
compensated_for cents = (0 ∷ 2 ∷ []) ++ (1 ∷ 0 ∷ 1 ∷ 0 ∷ 0 ∷ 0 ∷ []) ++ 4 ∷ 0 ∷ 1 ∷ cents ∷ 0 ∷ 0 ∷ []

-- X10, Settled examples: what the Close answers: it has three lines, a penalty of 0 cents and the two quantities bought
-- in
abbrev pub bought_in_two : List ℕ
bought_in_two =
    (0 ∷ 3 ∷ [])
    ++ (1 ∷ 0 ∷ 10 ∷ 0 ∷ 0 ∷ 0 ∷ [])
    ++ (3 ∷ 0 ∷ 5 ∷ 2500 ∷ 2 ∷ 100500 ∷ [])
    ++ 3 ∷ 0 ∷ 5 ∷ 5000 ∷ 1 ∷ 101000 ∷ []

-- X14, Settled examples: what the Close answers: it has two lines, a penalty of 0 cents and the quantity bought in
abbrev pub bought_in_one : List ℕ
bought_in_one = (0 ∷ 2 ∷ []) ++ (1 ∷ 0 ∷ 10 ∷ 0 ∷ 0 ∷ 0 ∷ []) ++ 3 ∷ 0 ∷ 10 ∷ 10000 ∷ 1 ∷ 101000 ∷ []

-- X11, Settled examples: what the Close and the Again answer: two lines, a penalty of 200 cents and one of 100 cents,
-- after the answer number and their count
abbrev pub two_penalties : List ℕ
two_penalties = (0 ∷ 2 ∷ []) ++ (1 ∷ 0 ∷ 200 ∷ 200 ∷ 0 ∷ 0 ∷ []) ++ 1 ∷ 1 ∷ 100 ∷ 100 ∷ 0 ∷ 0 ∷ []

-- X12, Settled examples: what each of the two journals shows: six accepted calls, and a Month that pays 200 and 100
-- cents
abbrev pub paid_in_full : List ℕ
paid_in_full = accepted 6 ++ 0 ∷ 200 ∷ 100 ∷ 0 ∷ []

-- X13, Settled examples: what a Target for one year shows if it is lent seven words, each of them 9: its answer number,
-- how many days it wrote, and the words
abbrev pub target_shown : ℕ → List ℕ
target_shown year = (target year year 7).answer ∷ (target year year 7).count ∷ target_words year year (replicate 7 9)

-- X15, Settled examples: the rate in force on a day, if a rate of 20 with the starting day 7 was entered first and then
-- one of 10 with the starting day 6
abbrev pub rate_on : ℕ → ℕ
rate_on d = rate_of (in_force (day d) (entered_rows (row_of (day 6) 10 ∷ row_of (day 7) 20 ∷ [])))

-- X15, Settled examples: what a Close answers that has one line, a penalty on 1,000 units
abbrev pub one_penalty : ℕ → List ℕ
one_penalty cents = (0 ∷ 1 ∷ []) ++ 1 ∷ 0 ∷ 1000 ∷ cents ∷ 0 ∷ 0 ∷ []

-- X1 to X15, Settled examples: the table of the examples, first by the definitions that each example speaks of, then as
-- calls after an Open
abbrev pub table : List Row
table =
    record { item = 1; computed = penalty 1000 100000 10 ∷ []; settled = 1000 ∷ [] }
    ∷ record { item = 2; computed = penalty 1 50000 10 ∷ penalty 1 49999 10 ∷ []; settled = 1 ∷ 0 ∷ [] }
    ∷ record { item = 3; computed = compensation 1 100005 ∷ compensation 1 100004 ∷ []; settled = 10001 ∷ 10000 ∷ [] }
    ∷ record { item = 4; computed = cap_answer 107998 99999 ∷ cap_answer 107999 99999 ∷ []; settled = 0 ∷ 18 ∷ [] }
    ∷ record {
      item = 5;
      computed = as_number (amounts_match 10000000 10000200) ∷ as_number (amounts_match 10000000 10000201) ∷ [];
      settled = 1 ∷ 0 ∷ [];
    }
    ∷ record {
      item = 6;
      computed = as_number (amounts_match 10000001 10002501) ∷ as_number (amounts_match 10000001 10002502) ∷ [];
      settled = 1 ∷ 0 ∷ [];
    }
    ∷ record { item = 7; computed = cash_of_each 1000 3 0 (1 ∷ 1 ∷ 1 ∷ []); settled = 333 ∷ 333 ∷ 334 ∷ [] }
    ∷ record { item = 8; computed = first_shares 100 200 100 0; settled = 67 ∷ 33 ∷ 0 ∷ [] }
    ∷ record { item = 8; computed = first_shares 100 100 100 100; settled = 34 ∷ 33 ∷ 33 ∷ [] }
    ∷ record {
      item = 9;
      computed = nth_day [] 2 30 ++ nth_day [] 2 35 ++ nth_day (day 44 ∷ []) 2 30;
      settled = 44 ∷ 51 ∷ 45 ∷ [];
    }
    ∷ record {
      item = 10;
      computed = auction_of (offer_of 3 7 101000 ∷ offer_of 2 5 100500 ∷ offer_of 1 7 101000 ∷ []);
      settled = 2 ∷ 5 ∷ 2500 ∷ 1 ∷ 5 ∷ 5000 ∷ [];
    }
    -- Up to edition 3 the larger offer came first: supplier 2 gave the ten units, at the same charge.
    ∷ record {
      item = 14;
      computed = auction_of (offer_of 2 12 101000 ∷ offer_of 1 10 101000 ∷ []);
      settled = 1 ∷ 10 ∷ 10000 ∷ [];
    }
    ∷ record { item = 1; computed = penalty_played 1000 100000; settled = accepted 3 ++ 0 ∷ 1 ∷ 1 ∷ 0 ∷ 1000 ∷ 1000 ∷ 0 ∷ 0 ∷ [] }
    ∷ record { item = 2; computed = penalty_played 1 50000; settled = accepted 3 ++ 0 ∷ 1 ∷ 1 ∷ 0 ∷ 1 ∷ 1 ∷ 0 ∷ 0 ∷ [] }
    ∷ record { item = 2; computed = penalty_played 1 49999; settled = accepted 3 ++ 0 ∷ 1 ∷ 1 ∷ 0 ∷ 1 ∷ 0 ∷ 0 ∷ 0 ∷ [] }
    ∷ record {
      item = 3;
      computed = compensation_played 100005;
      settled = accepted 16 ++ compensated_for 10001;
    }
    ∷ record {
      item = 3;
      computed = compensation_played 100004;
      settled = accepted 16 ++ compensated_for 10000;
    }
    ∷ record { item = 4; computed = cap_played; settled = accepted 14 ++ 0 ∷ 18 ∷ [] }
    ∷ record {
      item = 5;
      computed = match_played 10000000 10000201 10000200;
      settled = accepted 1 ++ one_of_three;
    }
    ∷ record {
      item = 6;
      computed = match_played 10000001 10002502 10002501;
      settled = accepted 1 ++ one_of_three;
    }
    ∷ record { item = 7; computed = delivers_played; settled = accepted 2 ++ three_cash }
    ∷ record {
      item = 8;
      computed = month_played two_sales (collecting 100);
      settled = accepted 6 ++ 0 ∷ 67 ∷ 33 ∷ 0 ∷ [];
    }
    ∷ record {
      item = 8;
      computed = month_played (sale 3 0 100 1000 ++ sale 3 1 100 1000 ++ sale 3 2 100 1000) (collecting 100);
      settled = accepted 8 ++ 0 ∷ 34 ∷ 33 ∷ 33 ∷ [];
    }
    ∷ record {
      item = 10;
      computed = auction_played auction_offers;
      settled = accepted 17 ++ bought_in_two;
    }
    -- Up to edition 3 the line of kind 3 was 3 0 10 10000 2 101000.
    ∷ record {
      item = 14;
      computed = auction_played equal_offers;
      settled = accepted 16 ++ bought_in_one;
    }
    ∷ record {
      item = 11;
      computed = reprint_played;
      settled = accepted 5 ++ two_penalties ++ (0 ∷ []) ++ two_penalties;
    }
    ∷ record { item = 12; computed = months_played; settled = paid_in_full ++ paid_in_full }
    ∷ record { item = 15; computed = rate_on 5 ∷ rate_on 6 ∷ rate_on 7 ∷ rate_on 9 ∷ []; settled = 0 ∷ 10 ∷ 20 ∷ 20 ∷ [] }
    ∷ record { item = 15; computed = rates_played; settled = accepted 4 ++ one_penalty 1000 ++ one_penalty 2000 }
    ∷ record { item = 13; computed = target_shown 2000; settled = 0 ∷ 6 ∷ 0 ∷ 111 ∷ 114 ∷ 121 ∷ 359 ∷ 360 ∷ 9 ∷ [] }
    ∷ []
