-- `charges` meets its contract.
use mathlib.Core.Path.{ap, ◌∙◌}
use native.Mathlib.Omega.{arith}
use Rattle.amounts.specs.Amounts.{value, due_for, cash, charge}
use Rattle.examples.proofs.Same.{none_differs}
use Rattle.examples.proofs.charges.Goals as goal

pub returns : goal.returns
unfolding value due_for cash charge
returns c = let first = none_differs (c.charge_for.ensures ∙ ap (charge 5 100500) c.cash_for-first.ensures) c.compared.ensures.value in
    let second = none_differs (c.charge_for-2.ensures ∙ ap (charge 5 101000) c.cash_for-second.ensures) c.compared-2.ensures.value in
    omega (arith, first, second)
