-- What the private functions of this crate find while a line is read.
use Rattle.std.specs.Prelude.{ℕ, List, Option, Some, None, leb, length}
use Rattle.basics.specs.Choice.{pick}
use Rattle.reading.specs.declared.Name.{Name}
use Rattle.reading.specs.declared.Shape.{Shape}
use Rattle.reading.specs.Calls.{Naming}

-- the name and the shape of the call that is named, if one is
unfoldable pub named_of : Option Naming → Option (Name × Shape)
named_of None = None
named_of (Some x) = Some (x.name, x.shape)

-- how many numbers there are, if every word is a number and there is a place for each
unfoldable pub few_of : ℕ → Option (List ℕ) → Option ℕ
few_of places None = None
few_of places (Some ns) = pick (leb (length ns) places) (Some (length ns)) None
