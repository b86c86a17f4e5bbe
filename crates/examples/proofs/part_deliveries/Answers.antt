-- `part_deliveries` meets its contract.
use native.Mathlib.Omega.{arith}
use Rattle.amounts.specs.Amounts.{due_for, cash}
use Rattle.examples.proofs.Same.{none_differs}
use Rattle.examples.proofs.part_deliveries.Goals as goal

pub returns : goal.returns
unfolding due_for cash
returns c = omega (
  arith,
  none_differs c.cash_for.ensures c.compared.ensures.value,
  none_differs c.cash_for-2.ensures c.compared-2.ensures.value,
  none_differs c.cash_for-3.ensures c.compared-3.ensures.value,
)
