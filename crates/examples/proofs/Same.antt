-- An answer that is the settled one does not differ.
use Prim.Native.Nat.{ℕ}
use mathlib.Core.Path.{◌≡◌, ap, ◌∙◌}
use mathlib.Core.Bool.{Bool}
use lib.Dec.{eqb}
use borrow.Author.Tests.{eq-eqb}
use Rattle.basics.specs.Choice.{pick}

-- such an answer adds 0 to the number of answers that differ
pub none_differs : {answer settled r : ℕ} → answer ≡ settled → r ≡ pick (eqb answer settled) 0 1 → r ≡ 0
none_differs {answer} {settled} e h = h ∙ ap (λ (t : Bool). pick t 0 1) (eq-eqb answer settled e)
