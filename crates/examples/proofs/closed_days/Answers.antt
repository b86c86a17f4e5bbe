-- `closed_days` meets its contract.
use Prim.Native.Nat.{ℕ}
use native.Mathlib.Omega.{arith}
use mathlib.Core.List.{List}
use mathlib.Core.Path.{ap, ◌∙◌}
use lib.ListN.{get_or}
use Rattle.holidays.specs.declared.DaysWritten.{DaysWritten}
use Rattle.examples.proofs.Same.{none_differs}
use Rattle.examples.proofs.Settled.{example_13}
use Rattle.examples.proofs.closed_days.Goals as goal

-- the numbers of the example
abbrev shown_at : ℕ → List ℕ → ℕ
shown_at i ns = get_or ns i 0

pub returns : goal.returns
returns c =
    let called = c.target_days-written in
    let written = called.ensures.value in
    let days = called.ensures.days_after in
    omega (
      arith,
      none_differs (ap (λ (r : DaysWritten). r.answer) written ∙ ap (shown_at 0) example_13) c.compared.ensures.value,
      none_differs (ap (λ (r : DaysWritten). r.count) written ∙ ap (shown_at 1) example_13) c.compared-2.ensures.value,
      none_differs (ap (shown_at 0) days ∙ ap (shown_at 2) example_13) c.compared-3.ensures.value,
      none_differs (ap (shown_at 1) days ∙ ap (shown_at 3) example_13) c.compared-4.ensures.value,
      none_differs (ap (shown_at 2) days ∙ ap (shown_at 4) example_13) c.compared-5.ensures.value,
      none_differs (ap (shown_at 3) days ∙ ap (shown_at 5) example_13) c.compared-6.ensures.value,
      none_differs (ap (shown_at 4) days ∙ ap (shown_at 6) example_13) c.compared-7.ensures.value,
      none_differs (ap (shown_at 5) days ∙ ap (shown_at 7) example_13) c.compared-8.ensures.value,
      none_differs (ap (shown_at 6) days ∙ ap (shown_at 8) example_13) c.compared-9.ensures.value,
    )
