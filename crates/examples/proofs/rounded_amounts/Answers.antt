-- `rounded_amounts` meets its contract.
use native.Mathlib.Omega.{arith}
use Rattle.amounts.specs.Quotients.{rounded}
use Rattle.amounts.specs.Amounts.{value, penalty, compensation}
use Rattle.examples.proofs.Same.{none_differs}
use Rattle.examples.proofs.rounded_amounts.Goals as goal

pub returns : goal.returns
unfolding rounded value penalty compensation
returns c = omega (
  arith,
  none_differs c.penalty_of.ensures c.compared.ensures.value,
  none_differs c.penalty_of-2.ensures c.compared-2.ensures.value,
  none_differs c.penalty_of-3.ensures c.compared-3.ensures.value,
  none_differs c.compensation_of.ensures c.compared-4.ensures.value,
  none_differs c.compensation_of-2.ensures c.compared-5.ensures.value,
)
