-- Instructions: which waiting leg a new one matches.
use Rattle.std.specs.Prelude.{ℕ, Bool, ◌&&◌, not, List, eqb, Option}
use Rattle.std.specs.List.{position_from}
use Rattle.basics.specs.Choice.{pick}
use Rattle.amounts.specs.Amounts.{amounts_match}
use Rattle.instructions.specs.declared.Leg.{Leg}
use Rattle.instructions.specs.declared.Legs.{Legs}
use Rattle.instructions.specs.Legs.{is_waiting, entered}

-- E1, Enter: the member delivers on side 0; of two legs, the one that delivers
abbrev pub delivering : Leg → Leg → Leg
delivering l other = pick (eqb l.side 0) l other

-- E1, Enter: the member receives on side 1; of two legs, the one that receives
abbrev pub receiving : Leg → Leg → Leg
receiving l other = pick (eqb l.side 0) other l

-- E4, Enter: each leg has the other's member as its other member
abbrev pub members_cross : Leg → Leg → Bool
members_cross l new = eqb l.member new.other && eqb l.other new.member

-- E4, Enter: both legs have the same Q and the same J
abbrev pub same_business : Leg → Leg → Bool
same_business l new = eqb l.quantity new.quantity && eqb l.day.0 new.day.0

-- E4, Enter: whether a new leg fits one that was entered before
unfoldable pub fits : Leg → Leg → Bool
fits l new =
    is_waiting l.state
    && (not (eqb l.side new.side)
    && (members_cross l new
    && (same_business l new && amounts_match (delivering new l).amount (receiving new l).amount)))

-- E5, Enter: the number of the leg that a new one matches, if there is one
abbrev pub Fit : Type 0
Fit = Option ℕ

-- the first of a list of legs that fits a new one, where the list begins with leg k
unfoldable pub first_fit : Leg → ℕ → List Leg → Fit
first_fit new k ls = position_from (λ l. fits l new) k ls

-- E5, Enter: of the legs that fit, the one with the lowest number
unfoldable pub lowest_fit : Legs → Leg → Fit
lowest_fit s new = first_fit new 0 (entered s)
