-- `asks_call` meets its contract: each shape has an arm.
use mathlib.Core.Path.{◌∙◌}
use native.Mathlib.Omega.{arith}
use Rattle.reading.proofs.Arguments.{lent_listed, amounts_listed}
use Rattle.settle.specs.Asked.{asked_call}
use Rattle.settle.proofs.calls.asks_call.Goals as goal

pub asks_lent-requires : goal.asks_lent-requires
asks_lent-requires c =
    let l = lent_listed c.args.n.now c.args.count c.requires.n_value.1 _ (rw c.in-Lent.is at c.requires.n_value.0) in
    (omega (arith, l.0), c.requires.n_value.1, omega (arith, c.requires.most_numbers_in_bounds))

pub overflow_sub-count : goal.overflow_sub-count
overflow_sub-count c =
    let l = amounts_listed c.args.n.now c.args.count c.requires.n_value.1 (rw c.in-Amounts.is at c.requires.n_value.0) in
    omega (arith, l.0)

pub asks_lent-requires-in-Amounts : goal.asks_lent-requires-in-Amounts
asks_lent-requires-in-Amounts c =
    let l = amounts_listed c.args.n.now c.args.count c.requires.n_value.1 (rw c.in-Amounts.is at c.requires.n_value.0) in
    (omega (arith, l.0), c.requires.n_value.1, omega (arith, c.requires.most_numbers_in_bounds))

pub returns-in-Plain : goal.returns-in-Plain
unfolding asked_call
returns-in-Plain c = c.asks_with.ensures ∙ rw c.in-Plain.is

pub returns-in-Days : goal.returns-in-Days
unfolding asked_call
returns-in-Days c = c.asks_with-in-Days.ensures ∙ rw c.in-Days.is

pub returns-in-Lent : goal.returns-in-Lent
unfolding asked_call
returns-in-Lent c = c.asks_lent.ensures ∙ rw c.in-Lent.is

pub returns-in-Amounts : goal.returns-in-Amounts
unfolding asked_call
returns-in-Amounts c = c.asks_lent-in-Amounts.ensures ∙ rw c.in-Amounts.is
