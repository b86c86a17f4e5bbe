-- `clearing_days` meets its contract.
use Prim.Native.Nat.{ℕ}
use mathlib.Core.Path.{ap, ◌∙◌}
use native.Mathlib.Omega.{arith}
use Rattle.examples.proofs.Settled.{thirtieth, thirty_fifth, thirtieth_after_closed}
use Rattle.examples.specs.Table.{day_or_none}
use Rattle.calendar.specs.Closed.{day, closed_days, listed_days}
use Rattle.calendar.specs.declared.ClosedDays.{ClosedDays}
use Rattle.calendar.specs.Days.{clearing_days, nth_after}
use Rattle.examples.proofs.Same.{none_differs}
use Rattle.examples.proofs.clearing_days.Goals as goal

-- the n-th clearing day after day 2
abbrev after : ℕ → ClosedDays → ℕ
after n d = day_or_none (nth_after (listed_days d) (day 2) (clearing_days n))

pub returns : goal.returns
unfolding closed_days listed_days
returns c = let open-days = c.of-all_open.ensures.value in let closed = c.of-one_closed.ensures.value in
    omega (
      arith,
      none_differs (c.nth_after_2.ensures ∙ ap (after 30) open-days ∙ ap day_or_none thirtieth) c.compared.ensures.value,
      none_differs (c.nth_after_2-2.ensures ∙ ap (after 35) open-days ∙ ap day_or_none thirty_fifth) c.compared-2.ensures.value,
      none_differs (c.nth_after_2-3.ensures ∙ ap (after 30) closed ∙ ap day_or_none thirtieth_after_closed) c.compared-3.ensures.value,
    )
