-- `bought` meets its contract.
use native.Mathlib.Omega.{arith}
use Prim.Native.Nat.{ℕ}
use mathlib.Core.Path.{ap}
use mathlib.Core.List.{List}
use lib.ListN.{get_or}
use Rattle.examples.proofs.Same.{none_differs}
use Rattle.examples.proofs.played.bought.Goals as goal

pub returns : goal.returns
returns c =
    let line = c.requires.2 in
    omega (
      arith,
      none_differs (ap (λ (l : List ℕ). get_or l 0 0) line) c.compared.ensures.value,
      none_differs (ap (λ (l : List ℕ). get_or l 1 0) line) c.compared-2.ensures.value,
      none_differs (ap (λ (l : List ℕ). get_or l 2 0) line) c.compared-3.ensures.value,
    )
