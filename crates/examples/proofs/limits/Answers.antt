-- `limits` meets its contract.
use mathlib.Core.Path.{ap, ◌∙◌}
use native.Mathlib.Omega.{arith}
use Rattle.std.specs.Int.{from_bool}
use Rattle.amounts.specs.Amounts.{tolerance, amounts_match, above_cap}
use Rattle.examples.proofs.Same.{none_differs}
use Rattle.examples.proofs.limits.Goals as goal

pub returns : goal.returns
unfolding tolerance amounts_match above_cap
returns c = omega (
  arith,
  none_differs (c.from.ensures ∙ ap from_bool c.above_cap.ensures) c.compared.ensures.value,
  none_differs (c.from-2.ensures ∙ ap from_bool c.above_cap-2.ensures) c.compared-2.ensures.value,
  none_differs (c.from-3.ensures ∙ ap from_bool c.amounts_match.ensures) c.compared-3.ensures.value,
  none_differs (c.from-4.ensures ∙ ap from_bool c.amounts_match-2.ensures) c.compared-4.ensures.value,
  none_differs (c.from-5.ensures ∙ ap from_bool c.amounts_match-3.ensures) c.compared-5.ensures.value,
  none_differs (c.from-6.ensures ∙ ap from_bool c.amounts_match-4.ensures) c.compared-6.ensures.value,
)
