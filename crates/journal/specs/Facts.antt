-- What one event says: its facts. Every sum and every history of a journal takes its own from them.
use Rattle.std.specs.Prelude.{ℕ, ◌+◌, Bool, true, false, ◌&&◌, List, [], ◌∷◌, eqb, get_or, Option, None, Some}
use Rattle.basics.specs.Choice.{pick}
use Rattle.basics.specs.Lists.{total}
use Rattle.calendar.specs.declared.Day.{Day}
use Rattle.offers.specs.declared.Offer.{Offer}
use Rattle.rates.specs.declared.RateRow.{RateRow}
use Rattle.rates.specs.Rows.{row_of}
use Rattle.ledger.specs.declared.Part.{Part}
use Rattle.ledger.specs.declared.Part.TheVariants.{Delivered, BoughtIn, Compensated, Cancelled}
use Rattle.ledger.specs.Parts.{same_part}
use Rattle.instructions.specs.declared.Leg.{Leg}
use Rattle.closing.specs.declared.Line.{Line}
use Rattle.closing.specs.Lines.{bought_kind, compensation_kind, lines_read}
use Rattle.book.specs.Instructing.{new_leg}
use Rattle.journal.specs.Calls.{Call, Event}

-- ---- Enter and Withdraw
-- E2, Enter; T1, Withdraw: what a call does to the legs. It enters one, and then the two numbers are those that it
-- returned, or it withdraws one, or it does neither.
pub data LegChange : Type 0 where
  enters : (leg obligation : ℕ) → Leg → LegChange
  withdraws : ℕ → LegChange
  neither : LegChange

-- J4, Whole journals: what the Enter that returned an obligation instructed: its parties, quantity and settlement day
pub record Instructed : Type 0 where
  pub seller : ℕ
  pub buyer : ℕ
  pub quantity : ℕ
  pub day : Day

-- E1 and E8, Enter: the member of side 0 delivers, so it sells to the other member. The member of side 1 receives.
unfoldable pub instructed_by : Leg → Instructed
instructed_by new =
    pick (eqb new.side 0) (record { seller = new.member; buyer = new.other; quantity = new.quantity; day = new.day })
    (record { seller = new.other; buyer = new.member; quantity = new.quantity; day = new.day })

-- J4, Whole journals: an Enter that returned n + 1 instructs obligation n
abbrev pub instructs : ℕ → LegChange → Option Instructed
instructs n (enters leg obligation new) = pick (eqb obligation (n + 1)) (Some (instructed_by new)) None
instructs n (withdraws leg) = None
instructs n neither = None

-- ---- Close
-- J7 and J8, Whole journals: a line of kind 3 says what was bought in, and a line of kind 4 says what was compensated
abbrev pub part_of_kind : ℕ → Option Part
part_of_kind kind = pick (eqb kind bought_kind) (Some BoughtIn) (pick (eqb kind compensation_kind) (Some Compensated) None)

-- whether there is a part and it is part k
abbrev pub is_part : Part → Option Part → Bool
is_part k None = false
is_part k (Some j) = same_part k j

-- J7 and J8, Whole journals: the quantity of a line if it says what became part k of obligation n, else 0
unfoldable pub quantity_to : Part → ℕ → Line → ℕ
quantity_to k n l = pick (is_part k (part_of_kind l.kind) && eqb l.obligation n) l.quantity 0

-- C1, Close; J5, Whole journals: how an accepted Close ended the day: its price, and the lines that it reported. They
-- are read from its list as it ended, and they are as many as the Close returned.
pub record Ended : Type 0 where
  pub price : ℕ
  pub lines : List Line

-- whether an event is an accepted Close
abbrev pub is_end : Option Ended → Bool
is_end None = false
is_end (Some d) = true

-- J5, Whole journals: the lines that an event reported, if it is an accepted Close; there are none otherwise
abbrev pub reported : Option Ended → List Line
reported None = []
reported (Some d) = d.lines

-- the price of an accepted Close
abbrev pub price_of : Option Ended → ℕ
price_of None = 0
price_of (Some d) = d.price

-- ---- the facts of an event
-- What an event says: what it does to the legs; which quantity of an obligation it moves to a part, apart from what its
-- lines say; whether it is member m's wish to cancel obligation n; the offers and the rates that it enters; how it
-- ended the day if it is a Close; and the list of collected amounts that it was given if it is a Month. Every sum and
-- every history takes its own from them.
pub record Facts : Type 0 where
  pub legs : LegChange
  pub moves : Part → ℕ → ℕ
  pub wishes : ℕ → ℕ → Bool
  pub offers : List Offer
  pub rates : List RateRow
  pub ends : Option Ended
  pub collects : Option (List ℕ)

-- the facts of an event that says nothing
abbrev pub no_facts : Facts
no_facts = record { legs = neither; moves = λ k n. 0; wishes = λ n m. false; offers = []; rates = []; ends = None; collects = None }

-- E2, Enter; T1, Withdraw: the facts of a call that only changes the legs
abbrev pub only_legs : LegChange → Facts
only_legs c = record { legs = c; moves = λ k n. 0; wishes = λ n m. false; offers = []; rates = []; ends = None; collects = None }

-- J6 and J9, Whole journals: a quantity of one obligation moves to one part
abbrev pub moves_one : Part → ℕ → ℕ → Part → ℕ → ℕ
moves_one k n q j m = pick (same_part j k && eqb m n) q 0

-- the facts of a call that moves quantities and may be a wish to cancel
abbrev pub only_moves : (Part → ℕ → ℕ) → (ℕ → ℕ → Bool) → Facts
only_moves f w = record { legs = neither; moves = f; wishes = w; offers = []; rates = []; ends = None; collects = None }

-- B5, Buy-in: the facts of a call that only enters offers
abbrev pub only_offers : List Offer → Facts
only_offers xs = record { legs = neither; moves = λ k n. 0; wishes = λ n m. false; offers = xs; rates = []; ends = None; collects = None }

-- F3, Rates: the facts of a call that only enters rows of rates
abbrev pub only_rates : List RateRow → Facts
only_rates xs = record { legs = neither; moves = λ k n. 0; wishes = λ n m. false; offers = []; rates = xs; ends = None; collects = None }

-- C17, Close: the facts of a Close, which ends the day
abbrev pub only_ends : Ended → Facts
only_ends d = record { legs = neither; moves = λ k n. 0; wishes = λ n m. false; offers = []; rates = []; ends = Some d; collects = None }

-- J13, Whole journals: the facts of a Month, which is given a list of collected amounts that may be empty
abbrev pub only_collects : List ℕ → Facts
only_collects cs = record { legs = neither; moves = λ k n. 0; wishes = λ n m. false; offers = []; rates = []; ends = None; collects = Some cs }

-- J6, J9 and J13, Whole journals; N5, Again: what an accepted call says, by its results and by its list as it ended. A
-- Deliver delivers its quantity. A Cancel cancels what it returned. An Again changes nothing, and its lines are not
-- reported a second time. A Month is given the collected amounts as they were lent.
abbrev pub facts_of : Call → List ℕ → List ℕ → Facts
facts_of (Call.enter member other side q a j) rs ws = only_legs (enters (get_or rs 0 0) (get_or rs 1 0) (new_leg member other side q a j))
facts_of (Call.withdraw leg member) rs ws = only_legs (withdraws leg)
facts_of (Call.cancel n member) rs ws = only_moves (moves_one Cancelled n (get_or rs 0 0)) (λ k m. eqb n k && eqb member m)
facts_of (Call.deliver n q) rs ws = only_moves (moves_one Delivered n q) (λ k m. false)
facts_of (Call.offer n supplier q price) rs ws = only_offers (record { obligation = n; supplier = supplier; quantity = q; price = price } ∷ [])
facts_of (Call.rate start rate) rs ws = only_rates (row_of start rate ∷ [])
facts_of (Call.close price lines) rs ws = only_ends (record { price = price; lines = lines_read (get_or rs 0 0) ws })
facts_of (Call.again lines) rs ws = no_facts
facts_of (Call.month collected payouts) rs ws = only_collects collected

-- J2, Whole journals: a call is accepted if its answer number is 0
abbrev pub accepted : Event → Bool
accepted e = eqb e.answer 0

-- A5, Refusals: what an event says; a refused call says nothing
abbrev pub facts : Event → Facts
facts e = pick (accepted e) (facts_of e.call e.results e.words) no_facts

-- J6 to J9, Whole journals: what an event makes part k of obligation n: what the call moved there, and what its
-- reported lines say
abbrev pub moved_by : Part → ℕ → Facts → ℕ
moved_by k n f = f.moves k n + total (quantity_to k n) (reported f.ends)
