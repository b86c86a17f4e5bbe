-- Instructions: the legs that members enter.
use Rattle.std.specs.Prelude.{ℕ, ◌+◌, ◌≤◌, ◌≡◌, Bool, true, false, List, ltb, length, get_or, set, take, replicate, Option, Some, None}
use Rattle.basics.specs.Choice.{pick}
use Rattle.basics.specs.Lists.{total, Every}
use Rattle.calendar.specs.Closed.{day}
use Rattle.amounts.specs.Amounts.{most_quantity, most_amount}
use Rattle.instructions.specs.declared.LegState.{LegState}
use Rattle.instructions.specs.declared.LegState.TheVariants.{Waiting, Withdrawn, Matched}
use Rattle.instructions.specs.declared.Instruction.{Instruction}
use Rattle.instructions.specs.declared.Leg.{Leg}
use Rattle.instructions.specs.declared.Legs.{Legs}

-- E3, Enter: whether a leg waits; one that was withdrawn or matched does not
abbrev pub is_waiting : LegState → Bool
is_waiting Waiting = true
is_waiting Withdrawn = false
is_waiting (Matched n) = false

-- E1, Enter: the leg of an instruction, which waits
abbrev pub leg_of : Instruction → Leg
leg_of i = record {
  member = i.member;
  other = i.other;
  side = i.side;
  quantity = i.quantity;
  amount = i.amount;
  day = i.day;
  state = Waiting;
}

-- what is required so that a leg can hold the numbers of an instruction: the members and the side fit 8 bits, and the
-- quantity is within its limit
pub record Fitting (i : Instruction) : Type 0 where
  pub member_fits : i.member ≤ 255
  pub other_fits : i.other ≤ 255
  pub side_fits : i.side ≤ 255
  pub quantity_fits : i.quantity ≤ most_quantity

-- what fills a place that no leg has taken: a withdrawn leg of zeros
abbrev pub no_leg : Leg
no_leg = record { member = 0; other = 0; side = 0; quantity = 0; amount = 0; day = day 0; state = Withdrawn }

-- E2, Enter: the most legs that a book takes in its life
abbrev pub most_legs : ℕ
most_legs = 128

-- E2, Enter; O5, Open: a fresh book has no legs
abbrev pub no_legs : Legs
no_legs = record { rows = replicate most_legs no_leg; count = 0 }

-- E2, Enter: the legs entered so far, numbered from 0
abbrev pub entered : Legs → List Leg
entered s = take s.count s.rows

-- E3, Enter: the same leg in another state
abbrev pub in_state : LegState → Leg → Leg
in_state state l = record {
  member = l.member;
  other = l.other;
  side = l.side;
  quantity = l.quantity;
  amount = l.amount;
  day = l.day;
  state = state;
}

-- the leg with a number; a number without a leg gives a leg of zeros, which no rule speaks of
abbrev pub leg_at : Legs → ℕ → Leg
leg_at s n = get_or s.rows n no_leg

-- R13, Refusals: Withdraw names a leg, fetches it by its number, and finds it if the number is below the count
unfoldable pub fetched_leg : Legs → ℕ → Option Leg
fetched_leg s n = pick (ltb n s.count) (Some (leg_at s n)) None

-- E10, Enter; T1, Withdraw: the leg with a number goes into another state
abbrev pub with_state : ℕ → LegState → Legs → Legs
with_state n state s = record { rows = set s.rows n (in_state state (leg_at s n)); count = s.count }

-- E2, Enter: a new leg gets the next number
abbrev pub with_leg : Leg → Legs → Legs
with_leg l s = record { rows = set s.rows s.count l; count = s.count + 1 }

-- 1 for a leg that waits, and 0 for any other
abbrev pub waiting_one : Leg → ℕ
waiting_one l = pick (is_waiting l.state) 1 0

-- how many of the legs wait
unfoldable pub waiting : Legs → ℕ
waiting s = total waiting_one (entered s)

-- O9, Open: what holds of every leg that was entered
pub record SoundLeg (l : Leg) : Type 0 where
  pub amount_some : 1 ≤ l.amount
  pub amount_most : l.amount ≤ most_amount

-- O9, Open: what holds of the legs of every book
pub record ValidLegs (s : Legs) : Type 0 where
  pub size : length s.rows ≡ most_legs
  pub few : s.count ≤ most_legs
  pub sound : Every SoundLeg (entered s)
