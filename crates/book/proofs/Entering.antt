-- What an Enter comes to: what the legs and the ledger require holds, and together they are what it returns.
use Rattle.std.specs.Prelude.{Some, None, Result, Ok, Err}
use Rattle.basics.specs.declared.Reason.{Reason}
use Rattle.basics.specs.Refusals.{outcome}
use Rattle.basics.specs.Reasons.{answer_of}
use Rattle.basics.proofs.Reasons.{number_eqb}
use mathlib.Core.Path.{◌≡◌, refl}
use Rattle.instructions.specs.declared.Instruction.{Instruction}
use Rattle.instructions.specs.declared.Entry.{Entry}
use Rattle.instructions.specs.declared.Leg.{Leg}
use Rattle.instructions.specs.declared.Legs.{Legs}
use Rattle.instructions.specs.Legs.{leg_of}
use Rattle.instructions.specs.Match.{Fit, lowest_fit}
use Rattle.instructions.specs.Entry.{entry_by, entry_of, Enterable}
use Rattle.book.specs.declared.Book.{Book}
use Rattle.book.specs.Book.{Valid}
use Rattle.book.specs.Instructing.{enter_returns, entered_alone, entered_with, entered_by, enter_refused, Matchable}
use Rattle.book.proofs.Kept.{Good, matched_room}

-- there are places for the new leg and for the obligation of a match
pub record Places (b : Book) (e : Result Entry Reason) : Type 0 where
  pub enterable : Enterable e b.legs
  pub matchable : Matchable e b.ledger

module _ (b : Book) (v : Valid b) (i : Instruction) where
  pub places : (a : Result Unit Reason) → (answer_of a ≡ 0 → Good b v (leg_of i)) → Places b (entry_of b.legs a i)
  places (Err reason) fine = record { enterable = tt; matchable = tt }
  places (Ok allowed) fine = by (fine refl) (lowest_fit b.legs (leg_of i)) refl
    where
      by : Good b v (leg_of i) → (f : Fit) → lowest_fit b.legs (leg_of i) ≡ f → Places b (Ok (entry_by (leg_of i) f))
      by g None q = record { enterable = g.room; matchable = tt }
      by g (Some k) q = let r = matched_room b v (leg_of i) k g q in record { enterable = (g.room, r.0); matchable = r }

  pub entry_enterable : (a : Result Unit Reason) → (answer_of a ≡ 0 → Good b v (leg_of i)) → Enterable (entry_of b.legs a i) b.legs
  entry_enterable a fine = (places a fine).enterable

  pub entry_matchable : (a : Result Unit Reason) → (answer_of a ≡ 0 → Good b v (leg_of i)) → Matchable (entry_of b.legs a i) b.ledger
  entry_matchable a fine = (places a fine).matchable

-- an Enter that comes to an entry was allowed, and the entry is that of the search
pub record Found (s : Legs) (a : Result Unit Reason) (i : Instruction) (e : Entry) : Type 0 where
  pub allowed : answer_of a ≡ 0
  pub found : e ≡ entry_by (leg_of i) (lowest_fit s (leg_of i))

pub found_of : (s : Legs) (a : Result Unit Reason) (i : Instruction) (e : Entry) → entry_of s a i ≡ Ok e → Found s a i e
found_of s (Ok allowed) i e p = record { allowed = refl; found = cc }
found_of s (Err reason) i e p = absurd cc

-- an Enter that comes to a refusal was refused for this reason
pub refused_of : (s : Legs) (a : Result Unit Reason) (i : Instruction) (r : Reason) → entry_of s a i ≡ Err r → a ≡ Err r
refused_of s (Ok allowed) i r p = absurd cc
refused_of s (Err reason) i r p = cc

-- what an accepted Enter returns
pub enters : (b : Book) (new : Leg) (f : Fit) → enter_returns b (Ok (entry_by new f)) ≡ entered_by b new f
unfolding entered_alone entered_with
enters b new None = refl
enters b new (Some k) = refl

-- what an Enter returns, by whether it is allowed
pub entered_outcome : (b : Book) (i : Instruction) (a : Result Unit Reason) →
    enter_returns b (entry_of b.legs a i) ≡ outcome (answer_of a) (entered_by b (leg_of i) (lowest_fit b.legs (leg_of i))) (enter_refused b)
entered_outcome b i (Ok allowed) = enters b (leg_of i) (lowest_fit b.legs (leg_of i))
entered_outcome b i (Err reason) = rw (number_eqb reason)
