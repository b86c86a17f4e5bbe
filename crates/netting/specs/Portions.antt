-- The shares of a month as the code computes them. It first computes for each member the share rounded down and the
-- remainder, and the cents that are left. From these it computes what each member gets. The module Shares has the
-- shares as the rules state them.
use Rattle.std.specs.Prelude.{ℕ, ◌+◌, ◌*◌, ◌^◌, ◌≤◌, List, map, ltb, get_or}
use Rattle.basics.specs.Choice.{pick}
use Rattle.basics.specs.Lists.{sum}
use Rattle.amounts.specs.Quotients.{divided}
use Rattle.amounts.specs.declared.Divided.{Divided}
use Rattle.netting.specs.declared.Portions.{Portions}
use Rattle.netting.specs.Shares.{cents_left, rank}

-- what the division of the sum collected requires: no more is collected than is claimed, and the claims are not too
-- large
pub record Dividable (c : ℕ) (gs : List ℕ) : Type 0 where
  pub covered : c ≤ sum gs
  pub small : sum gs ≤ 2 ^ 48

-- for the sum c and the claims gs, each claim's share rounded down and its remainder
abbrev pub parts : ℕ → List ℕ → List Divided
parts c gs = map (λ g. divided (c * g) (sum gs)) gs

-- these, and the cents left, before any cent is given out
unfoldable pub portions : ℕ → List ℕ → Portions
portions c gs = record { parts = parts c gs; left = cents_left c gs }

-- a claim of 0 has this part
abbrev pub nothing : Divided
nothing = record { quotient = 0; remainder = 0 }

-- a member's share rounded down
abbrev pub floor_of : List Divided → ℕ → ℕ
floor_of ps m = (get_or ps m nothing).quotient

-- a member's remainder
abbrev pub remainder_of : List Divided → ℕ → ℕ
remainder_of ps m = (get_or ps m nothing).remainder

-- what member m gets of the cents left: one if fewer members come before it than there are cents
unfoldable pub cent_of : Portions → ℕ → ℕ
cent_of p m = pick (ltb (rank (remainder_of p.parts) m) p.left) 1 0

-- what member m gets for its claim g, by these portions; a member without a claim gets 0
unfoldable pub share_of : ℕ → Portions → ℕ → ℕ
share_of g p m = pick (ltb 0 g) (floor_of p.parts m + cent_of p m) 0
