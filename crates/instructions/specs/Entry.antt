-- Instructions: what an Enter comes to, and what it makes of the legs.
use Rattle.std.specs.Prelude.{ℕ, ◌+◌, ◌<◌, Some, None, Result, Ok, Err}
use Rattle.basics.specs.declared.Reason.{Reason}
use Rattle.instructions.specs.declared.LegState.TheVariants.{Matched}
use Rattle.instructions.specs.declared.Instruction.{Instruction}
use Rattle.instructions.specs.declared.Leg.{Leg}
use Rattle.instructions.specs.declared.Legs.{Legs}
use Rattle.instructions.specs.declared.Entry.{Entry}
use Rattle.instructions.specs.declared.Entry.TheVariants.{Alone, Matching}
use Rattle.instructions.specs.Legs.{most_legs, leg_of, in_state, with_state, with_leg}
use Rattle.instructions.specs.Match.{Fit, lowest_fit}

-- E10, Enter: what an accepted Enter comes to, by the search for the leg that the new one matches
abbrev pub entry_by : Leg → Fit → Entry
entry_by new None = Alone new
entry_by new (Some k) = Matching new k

-- A5, Refusals; E5 and E10, Enter: what an Enter comes to, if it is allowed; otherwise the reason why it is refused
abbrev pub entry_of : Legs → Result Unit Reason → Instruction → Result Entry Reason
entry_of s (Ok allowed) i = Ok (entry_by (leg_of i) (lowest_fit s (leg_of i)))
entry_of s (Err reason) i = Err reason

-- E2 and E10, Enter: the legs after an Enter, whose obligation has the number n if there is a match. A leg without a
-- match waits, and both legs of a match are matched to the obligation. A refused Enter leaves the legs as they are
-- (A5).
abbrev pub with_entry : Result Entry Reason → ℕ → Legs → Legs
with_entry (Err reason) n s = s
with_entry (Ok (Alone new)) n s = with_leg new s
with_entry (Ok (Matching new k)) n s = with_leg (in_state (Matched n) new) (with_state k (Matched n) s)

-- what is required so that the legs can take what an Enter comes to
abbrev pub Enterable : Result Entry Reason → Legs → Type 0
Enterable (Err reason) s = Unit {0}
Enterable (Ok (Alone new)) s = s.count < most_legs
Enterable (Ok (Matching new k)) s = (s.count < most_legs) × (k < most_legs)

-- E11, Enter; A5, Refusals: the number of the new leg, which is how many legs there were before; 0 for a refused Enter
abbrev pub leg_number : Result Entry Reason → ℕ → ℕ
leg_number (Err reason) legs = 0
leg_number (Ok (Alone new)) legs = legs
leg_number (Ok (Matching new k)) legs = legs

-- E11, Enter; A5, Refusals: the number of the new obligation plus 1, if there were this many obligations before, or 0
-- without a match and for a refused Enter
abbrev pub obligation_number : Result Entry Reason → ℕ → ℕ
obligation_number (Err reason) obligations = 0
obligation_number (Ok (Alone new)) obligations = 0
obligation_number (Ok (Matching new k)) obligations = obligations + 1
