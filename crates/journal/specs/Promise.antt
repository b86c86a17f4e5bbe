-- What is promised of every journal. Nothing here reads the book: all is said of what calls answer, from the Open and
-- the events alone. Only the clauses `-same` in journal/proofs/Demand3.antt speak of a book: the calls that show
-- something return the book that they were given.
use Rattle.std.specs.Prelude.{ℕ, ◌+◌, ◌*◌, ◌/◌, ◌≤◌, ◌<◌, ◌≡◌, true, ◌&&◌, ◌⊎◌, List, [], ◌∷◌, map, eqb, length, get_or, take, drop, None, Some}
use Rattle.basics.specs.Choice.{pick}
use Rattle.basics.specs.Lists.{sum, total, Every}
use Rattle.amounts.specs.Amounts.{penalty}
use Rattle.offers.specs.declared.Offer.{Offer}
use Rattle.offers.specs.declared.Given.{Given}
use Rattle.offers.specs.Rank.{InOrder}
use Rattle.offers.specs.BuyIn.{given}
use Rattle.rates.specs.declared.RateRow.{RateRow}
use Rattle.ledger.specs.declared.Part.{Part}
use Rattle.ledger.specs.declared.Part.TheVariants.{BoughtIn}
use Rattle.ledger.specs.Parts.{part_of, every_part}
use Rattle.ledger.specs.Obligations.{in_buy_in}
use Rattle.netting.specs.Accounts.{member_count}
use Rattle.ledger.specs.Lines.{words_in_line, fewest_words}
use Rattle.closing.specs.declared.Line.{Line}
use Rattle.closing.specs.Lines.{penalty_kind}
use Rattle.book.specs.declared.Closed.{Closed}
use Rattle.book.specs.declared.Shown.{Shown}
use Rattle.book.specs.declared.Balance.{Balance}
use Rattle.book.specs.declared.Looked.{Looked}
use Rattle.journal.specs.Calls.{Opening, Event}
use Rattle.journal.specs.Facts.{Instructed, part_of_kind, is_part, Ended, is_end, reported, facts}
use Rattle.journal.specs.Sums.{terms_in, today_in, instructed_in, part_in, outstanding_in, age_in, account_in, claims_in, collected_in, grace_price_in, grace_closed_in, last_in, last_closed_in}
use Rattle.journal.specs.History.{latest_close, offers_in, force_in}

-- J10 and J15, Whole journals: what a Status after the list shows of an obligation of the list. It is accepted and
-- shows the instructed quantity and the sum of each part. These sums and what it shows as outstanding add up to the
-- quantity. Once a Close was accepted on the last day, nothing is outstanding.
pub record StatusShows (o : Opening) (es : List Event) (n : ℕ) (i : Instructed) (t : Shown) : Type 0 where
  pub accepted : t.answer ≡ 0
  pub quantity : t.quantity ≡ i.quantity
  pub part : (k : Part) → part_of k t.parts ≡ part_in k n es
  pub whole : i.quantity ≡ total (λ k. part_in k n es) every_part + t.parts.outstanding
  pub last_day : last_closed_in o n es ≡ true → t.parts.outstanding ≡ 0

-- J11, Whole journals: what an Account after the list shows of a member: what the penalties brought to it, less what
-- they took from it, since the last accepted Month or since the start
pub record AccountShows (es : List Event) (m : ℕ) (t : Balance) : Type 0 where
  pub accepted : t.answer ≡ 0
  pub cents : t.cents ≡ account_in m es

-- L3, Reading: after these events obligation n, of which i is what was instructed, is late, and member m sells it
pub record IsLate (o : Opening) (es : List Event) (m n : ℕ) (i : Instructed) : Type 0 where
  pub seller : i.seller ≡ m
  pub past_due : i.day.0 < (today_in o es).0
  pub left : 0 < outstanding_in n i es

-- L3 and L4, Reading: what Look shows of a member's late obligations after the list: 0 if there is none, else the
-- number plus 1 of one of them
pub data LateShown (o : Opening) (es : List Event) (m : ℕ) : ℕ → Type 0 where
  none_late : ((n : ℕ) (i : Instructed) → instructed_in n es ≡ Some i → IsLate o es m n i → ⊥) → LateShown o es m 0
  one_late : (n : ℕ) (i : Instructed) → instructed_in n es ≡ Some i → IsLate o es m n i → LateShown o es m (n + 1)

-- L3, Reading: what Look shows of a member after the list
pub record LookShows (o : Opening) (es : List Event) (m : ℕ) (t : Looked) : Type 0 where
  pub accepted : t.answer ≡ 0
  pub late : LateShown o es m t.obligation

-- A5, Refusals: an Again after the list that is refused by n: it gives no lines, and every lent word stays as it was
pub record AgainRefused (n : ℕ) (ws us : List ℕ) (t : Closed) : Type 0 where
  pub number : t.answer ≡ n
  pub count : t.count ≡ 0
  pub words : us ≡ ws

-- N2, Again: an Again after the list gives what this Close gave. It returns what the Close returned, the words of these
-- lines are those of the Close's list as that Close ended, and each word after them stays as it was.
pub record AgainGives (e : Event) (ws us : List ℕ) (t : Closed) : Type 0 where
  pub accepted : t.answer ≡ 0
  pub count : t.count ≡ get_or e.results 0 0
  pub lines : take (words_in_line * t.count) us ≡ take (words_in_line * t.count) e.words
  pub behind : drop (words_in_line * t.count) us ≡ drop (words_in_line * t.count) ws

-- J16, Whole journals: what an Again after the list shows, if it is lent the words ws and they end as us. It is refused
-- by 5 if the list is too short. Otherwise it is refused by 22 if no Close was accepted, and gives what the latest
-- accepted Close gave if there was one.
pub record AgainShows (es : List Event) (ws us : List ℕ) (t : Closed) : Type 0 where
  pub short : length ws < fewest_words → AgainRefused 5 ws us t
  pub before : fewest_words ≤ length ws → latest_close es ≡ None → AgainRefused 22 ws us t
  pub after : fewest_words ≤ length ws → (e : Event) → latest_close es ≡ Some e → AgainGives e ws us t

-- J14, Whole journals: what a creditor with claim g gets of c, where all claims add up to whole: c × g / whole, rounded
-- down, or one cent more, and no more than g
pub record Paid (c whole g payout : ℕ) : Type 0 where
  pub proportional : (payout ≡ c * g / whole) ⊎ (payout ≡ c * g / whole + 1)
  pub most : payout ≤ g

-- J13 and J14, Whole journals: an accepted Month that was given this list of collected amounts. What it collected and
-- the claims follow from the list and the events before it, and the payouts are read as it ended. If the list was
-- empty, every member got its claim.
pub record MonthPays (amounts payouts : List ℕ) (earlier : List Event) : Type 0 where
  pub all : sum payouts ≡ sum (collected_in amounts earlier)
  pub each : (m : ℕ) → m < member_count → 0 < get_or (claims_in earlier) m 0 →
      Paid (sum (collected_in amounts earlier)) (sum (claims_in earlier)) (get_or (claims_in earlier) m 0) (get_or payouts m 0)
  pub in_full : amounts ≡ [] → payouts ≡ claims_in earlier

-- P holds of each event together with the events before it
abbrev pub EachEvent : (Event → List Event → Type 0) → List Event → Type 0
EachEvent P [] = Unit {0}
EachEvent P (e ∷ es) = P e es × EachEvent P es

-- J13 and J14, Whole journals: every accepted Month of a journal pays as these items say
abbrev pub EveryMonth : List Event → Type 0
EveryMonth es = EachEvent (λ e earlier. (amounts : List ℕ) → (facts e).collects ≡ Some amounts → MonthPays amounts e.words earlier) es

-- B9, Buy-in: the price for the cap of an obligation is there: a Close was accepted at age = grace, and its price is at
-- least 1
pub record HasCapPrice (o : Opening) (es : List Event) (n : ℕ) : Type 0 where
  pub closed : grace_closed_in o n es ≡ true
  pub price : 1 ≤ grace_price_in o n es

-- B9, Buy-in: every obligation of a journal whose age is above grace has its price for the cap
abbrev pub EveryCapPrice : Opening → List Event → Type 0
EveryCapPrice o es = (n : ℕ) (i : Instructed) → instructed_in n es ≡ Some i → (terms_in o).grace.0 < age_in o i es → HasCapPrice o es n

-- C11 and C12, Close: what a line of a bought quantity says of the offer that gave it: how much, by which supplier and
-- at which price
pub record Purchase : Type 0 where
  pub quantity : ℕ
  pub supplier : ℕ
  pub price : ℕ

-- C11 and C12, Close: what these lines say was bought in of obligation n, in their order
unfoldable pub purchases_in : ℕ → List Line → List Purchase
purchases_in n [] = []
purchases_in n (l ∷ ls) =
    pick (is_part BoughtIn (part_of_kind l.kind) && eqb l.obligation n)
    (record { quantity = l.quantity; supplier = l.supplier; price = l.price } ∷ purchases_in n ls)
    (purchases_in n ls)

-- what an offer gave, as its line says it: how much, by which supplier and at which price
abbrev pub purchase_from : Given → Purchase
purchase_from g = record { quantity = g.quantity; supplier = g.offer.supplier; price = g.offer.price }

-- C7 and C8, Close: what these lines say was bought in of obligation n, of which left units are outstanding, is what
-- the offers give that were accepted since the last accepted Close. The offers are taken by rising price, then earlier
-- entry. Each offer for n gives the smaller of its quantity and what is left, and has a line if that is not 0.
pub record BoughtInTurn (earlier : List Event) (n left : ℕ) (ls : List Line) : Type 0 where
  pub turns : List Offer
  pub in_turn : InOrder (offers_in earlier) turns
  pub lines : purchases_in n ls ≡ map purchase_from (given n left turns)

-- C7, Close: of every obligation that is in its buy-in days after these events, with an age above grace and not above
-- last and something outstanding, these lines say what its offers give, taken in the order of C7
abbrev pub BuysInTurn : Opening → List Event → List Line → Type 0
BuysInTurn o earlier ls = (n : ℕ) (i : Instructed) → instructed_in n earlier ≡ Some i → 0 < outstanding_in n i earlier →
    in_buy_in (terms_in o).grace.0 (last_in o n i earlier) (age_in o i earlier) ≡ true → BoughtInTurn earlier n (outstanding_in n i earlier) ls

-- C7 and C8, Close: every accepted Close of a journal buys in from the offers in the order of C7
abbrev pub EveryBuyIn : Opening → List Event → Type 0
EveryBuyIn o es = EachEvent (λ e earlier. is_end (facts e).ends ≡ true → BuysInTurn o earlier (reported (facts e).ends)) es

-- C4, Close; J18, Whole journals: an accepted Close at this price reported these lines. A row is in force by the events
-- before it, and the cents of each penalty are those of its quantity, of the price and of the rate of this row.
pub record PenaltiesBy (o : Opening) (earlier : List Event) (price : ℕ) (ls : List Line) : Type 0 where
  pub row : RateRow
  pub in_force : force_in o earlier ≡ Some row
  pub cents : Every (λ l. l.kind ≡ penalty_kind → l.cents ≡ penalty l.quantity price row.rate) ls

-- J18, Whole journals: the penalties of every accepted Close of a journal are those of its price and of the rate in
-- force
abbrev pub EveryPenalty : Opening → List Event → Type 0
EveryPenalty o es = EachEvent (λ e earlier. (d : Ended) → (facts e).ends ≡ Some d → PenaltiesBy o earlier d.price d.lines) es
