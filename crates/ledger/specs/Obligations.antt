-- Obligations, and what becomes of their quantity.
use Rattle.std.specs.Prelude.{ℕ, ◌+◌, ◌≤◌, ◌<◌, ◌≡◌, Bool, true, false, ◌&&◌, ◌||◌, eqb, ltb, leb}
use Rattle.basics.specs.Choice.{pick}
use Rattle.calendar.specs.declared.Day.{Day}
use Rattle.calendar.specs.Closed.{day, listed_days}
use Rattle.calendar.specs.Days.{age_at}
use Rattle.amounts.specs.Amounts.{most_quantity, most_amount, most_close_price, cash}
use Rattle.netting.specs.Accounts.{member_count}
use Rattle.ledger.specs.declared.Terms.{Terms}
use Rattle.ledger.specs.declared.Setup.{Setup}
use Rattle.ledger.specs.declared.Part.{Part}
use Rattle.ledger.specs.declared.Part.TheVariants.{Cancelled}
use Rattle.ledger.specs.declared.Parts.{Parts}
use Rattle.ledger.specs.declared.Deal.{Deal}
use Rattle.ledger.specs.declared.Stage.{Stage}
use Rattle.ledger.specs.declared.Wishes.{Wishes}
use Rattle.ledger.specs.declared.Obligation.{Obligation}
use Rattle.ledger.specs.declared.Sides.{Sides}
use Rattle.ledger.specs.Parts.{parts_by, moved, settled_parts, all_parts}

-- R11, Refusals: the latest settlement day
abbrev pub latest_day : ℕ
latest_day = 60000

-- B1, Buy-in: the age of an obligation on a day, with the closed days of a setup
abbrev pub age_by : Setup → Day → Obligation → ℕ
age_by setup today o = (age_at (listed_days setup.closed_days) o.deal.day today).0

-- the stage of a new obligation: no price for the cap is stored yet
abbrev pub new_stage : Stage
new_stage = record { grace_price = 0 }

-- the wishes of a new obligation: neither party has asked to cancel it
abbrev pub no_wishes : Wishes
no_wishes = record { seller = false; buyer = false }

-- E8 and E9, Enter: a new obligation, of which the whole of Q is outstanding
abbrev pub new_obligation : Deal → Obligation
new_obligation d = record { deal = d; parts = parts_by (λ k. 0) d.quantity; stage = new_stage; wishes = no_wishes }

-- what fills a place that no obligation has taken
abbrev pub no_obligation : Obligation
no_obligation = new_obligation (record { seller = 0; buyer = 0; quantity = 0; amount = 0; day = day 0 })

-- an obligation with other parts
abbrev pub with_parts : Parts → Obligation → Obligation
with_parts p o = record { deal = o.deal; parts = p; stage = o.stage; wishes = o.wishes }

-- an obligation at another stage
abbrev pub with_stage : Stage → Obligation → Obligation
with_stage s o = record { deal = o.deal; parts = o.parts; stage = s; wishes = o.wishes }

-- an obligation with other wishes
abbrev pub with_wishes : Wishes → Obligation → Obligation
with_wishes w o = record { deal = o.deal; parts = o.parts; stage = o.stage; wishes = w }

-- B9, Buy-in: an obligation in which this price of the Close at age = grace is stored
abbrev pub with_grace_price : ℕ → Obligation → Obligation
with_grace_price price o = with_stage (record { grace_price = price }) o

-- V3, Deliver: the units of an obligation that are settled
abbrev pub settled : Obligation → ℕ
settled o = settled_parts o.parts

-- V2, Deliver: the cash for q units that are settled next
unfoldable pub cash_of : Obligation → ℕ → ℕ
cash_of o q = cash o.deal.amount o.deal.quantity (settled o) (settled o + q)

-- V1, Deliver; C8 and C10, Close; K3, Cancel: q units of an obligation move from outstanding to the part k
unfoldable pub moving : Part → ℕ → Obligation → Obligation
moving k q o = with_parts (moved k q o.parts) o

-- C10, Close; K3, Cancel: all that is outstanding becomes the part k
abbrev pub moving_all : Part → Obligation → Obligation
moving_all k o = moving k o.parts.outstanding o

-- K1, Cancel: the seller and the buyer are the parties
unfoldable pub is_party : Obligation → ℕ → Bool
is_party o member = eqb o.deal.seller member || eqb o.deal.buyer member

-- K1, Cancel: whether a party's wish is recorded
unfoldable pub has_wished : Obligation → ℕ → Bool
has_wished o member = pick (eqb o.deal.seller member) o.wishes.seller o.wishes.buyer

-- K1, Cancel: the obligation with a party's wish recorded
unfoldable pub with_wish : ℕ → Obligation → Obligation
with_wish member o =
    pick (eqb o.deal.seller member) (with_wishes (record { seller = true; buyer = o.wishes.buyer }) o)
    (with_wishes (record { seller = o.wishes.seller; buyer = true }) o)

-- K3, Cancel: whether the wishes of both parties are recorded
unfoldable pub both_wish : Obligation → Bool
both_wish o = o.wishes.seller && o.wishes.buyer

-- K2 and K3, Cancel: the first wish is only recorded; with the wish of the other party all that is outstanding becomes
-- cancelled
unfoldable pub wishing : ℕ → Obligation → Obligation
wishing member o = pick (both_wish (with_wish member o)) (moving_all Cancelled (with_wish member o)) (with_wish member o)

-- K2 and K3, Cancel: the quantity that a wish moves, which is 0 for the first wish
unfoldable pub moved_by_wish : ℕ → Obligation → ℕ
moved_by_wish member o = pick (both_wish (with_wish member o)) o.parts.outstanding 0

-- B3, Buy-in: the age of an obligation on its last day
unfoldable pub last_of : Terms → Obligation → ℕ
last_of terms o = terms.last.0

-- B7, Buy-in; C7, Close: the age is above grace and not above last
abbrev pub in_buy_in : ℕ → ℕ → ℕ → Bool
in_buy_in grace last age = ltb grace age && leb age last

-- C2, Close: J is today or earlier, and something is outstanding
unfoldable pub is_due : Day → Obligation → Bool
is_due today o = leb o.deal.day.0 today.0 && ltb 0 o.parts.outstanding

-- C5, Close: a penalty is debited to the seller and credited to the buyer
unfoldable pub sides : ℕ → ℕ → Sides
sides seller buyer = record { debtor = seller; creditor = buyer }

-- C5, Close: the sides of a penalty of an obligation
abbrev pub sides_of : Obligation → Sides
sides_of o = sides o.deal.seller o.deal.buyer

-- O9, Open: what holds of every deal of a book
pub record SoundDeal (d : Deal) : Type 0 where
  pub quantity_some : 1 ≤ d.quantity
  pub quantity_most : d.quantity ≤ most_quantity
  pub amount_some : 1 ≤ d.amount
  pub amount_most : d.amount ≤ most_amount
  pub seller_below : d.seller < member_count
  pub buyer_below : d.buyer < member_count
  pub parties_apart : d.seller ≡ d.buyer → ⊥
  pub day_most : d.day.0 ≤ latest_day

-- O9, Open: what holds of the stage of every obligation
pub record SoundStage (s : Stage) : Type 0 where
  pub price_most : s.grace_price ≤ most_close_price

-- O9, Open: what holds of every obligation of a book
pub record Sound (o : Obligation) : Type 0 where
  pub deal : SoundDeal o.deal
  pub whole : all_parts o.parts ≡ o.deal.quantity
  pub stage : SoundStage o.stage

-- a sound obligation with at least q outstanding, as a delivery and a buy-in of q units require it
pub record Takes (o : Obligation) (q : ℕ) : Type 0 where
  pub sound : Sound o
  pub enough : q ≤ o.parts.outstanding
