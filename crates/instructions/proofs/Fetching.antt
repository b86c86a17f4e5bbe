-- What a number that names a leg finds.
use Prim.Native.Nat.{ℕ, ◌<◌}
use Rattle.std.specs.Prelude.{Option, Some, None}
use lib.Dec.{ltb}
use borrow.Author.Tests.{ltb-true}
use Rattle.basics.proofs.Cases.{pick_case}
use Rattle.instructions.specs.declared.Legs.{Legs}
use Rattle.instructions.specs.declared.Leg.{Leg}
use Rattle.instructions.specs.Legs.{leg_at, fetched_leg}

-- what holds of both answers of a fetch holds of the fetch
pub fetched_leg_case : (P : Option Leg → Type 0) (s : Legs) (n : ℕ) → P None → (n < s.count → P (Some (leg_at s n))) → P (fetched_leg s n)
unfolding fetched_leg
fetched_leg_case P s n f g = pick_case P (ltb n s.count) _ _ (λ e. g (ltb-true n s.count e)) (λ e. f)
