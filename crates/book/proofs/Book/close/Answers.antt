-- `close` meets its contract.
use Rattle.std.specs.Prelude.{Some}
use native.Mathlib.Omega.{arith}
use mathlib.Core.Path.{◌≡◌, sym, ap, ◌∙◌}
use mathlib.Core.Bool.{false}
use lib.ListN.{length}
use Rattle.basics.proofs.Reasons.{number_some, number_by, zero_by}
use Rattle.basics.specs.Refusals.{answer}
use Rattle.closing.specs.declared.DayEnd.{DayEnd}
use Rattle.rates.specs.Force.{is_unset, rate_of}
use Rattle.refusals.specs.Calls.{close_refusals_in}
use Rattle.book.specs.Book.{today_of}
use Rattle.book.specs.Close.{next_day, force_of, day_end}
use Rattle.book.proofs.Ended.{refused_end, done_closable, done_keepable, done_end}
use Rattle.refusals.proofs.Ending.{close_refused, close_never, close_unset}
use Rattle.book.proofs.Book.close.Goals as goal
use Rattle.book.proofs.Book.close.Goals.{In_default, In-Some, In-Some-in_force}

-- no refusal from the input holds
passes : (c : In_default) → let a = c.args in answer (close_refusals_in a.price (length a.lines.now)) ≡ 0
passes c = zero_by c.close_in.ensures c.in_default.is

-- the next clearing day was found
next_day_is : (c : In-Some) → next_day c.args.self ≡ Some c.in-Some.next
next_day_is c = sym c.next_after.ensures ∙ c.in-Some.is

-- a rate is in force
in_force : (c : In-Some-in_force) → force_of c.args.self ≡ Some c.in-Some-in_force.row
in_force c = sym c.in_force.ensures ∙ c.in-Some-in_force.is

is_set : (c : In-Some-in_force) → is_unset (force_of c.args.self) ≡ false
is_set c = ap is_unset (in_force c)

-- the end of the day that the code builds is that of the rules
same_end : (c : In-Some-in_force) → let a = c.args in
    ◌≡◌ {A = DayEnd} (record { setup = a.self.setup; today = today_of a.self; price = a.price; rate = c.in-Some-in_force.row.rate }) (day_end a.self a.price)
same_end c =
    let a = c.args in
    λ i. record { setup = a.self.setup; today = today_of a.self; price = a.price; rate = rate_of (sym (in_force c) i) }

pub returns-in-Err : goal.returns-in-Err
returns-in-Err c =
    let a = c.args in
    refused_end a.self c.requires a.price _ a.lines.now _ c.refused.ensures
    (close_refused _ _ _ _ _ (number_by c.close_in.ensures c.in-Err.is) (number_some _)) (number_some _)

pub returns-in_default-next_after : goal.returns-in_default-next_after
returns-in_default-next_after c =
    let a = c.args in
    refused_end a.self c.requires a.price 20 a.lines.now _ c.refused-in_default-next_after.ensures
    (close_never _ _ _ _ (sym c.next_after.ensures ∙ c.in_default-next_after.is) (passes (goal.at.returns-in_default-next_after c).In_default))
    (λ z. absurd (omega arith))

pub in_force-requires : goal.in_force-requires
in_force-requires c = c.requires.rates.few

pub returns-in_default-in_force : goal.returns-in_default-in_force
returns-in_default-in_force c =
    let a = c.args in
    refused_end a.self c.requires a.price 26 a.lines.now _ c.refused-in_default-in_force.ensures
    (close_unset _ _ _ _ _ (next_day_is (goal.at.returns-in_default-in_force c).In-Some) (sym c.in_force.ensures ∙ c.in_default-in_force.is) (passes (goal.at.returns-in_default-in_force c).In_default))
    (λ z. absurd (omega arith))

pub close-count-requires : goal.close-count-requires
close-count-requires c =
    let a = c.args in
    done_closable a.self c.requires a.price a.lines.now (passes (goal.at.close-count-requires c).In_default) _ (next_day_is (goal.at.close-count-requires c).In-Some) (is_set (goal.at.close-count-requires c).In-Some-in_force) _ (same_end (goal.at.close-count-requires c).In-Some-in_force)

pub of-self-requires : goal.of-self-requires
of-self-requires c =
    done_keepable _ c.requires _ _ (passes (goal.at.of-self-requires c).In_default) _ (next_day_is (goal.at.of-self-requires c).In-Some) (is_set (goal.at.of-self-requires c).In-Some-in_force) _ (same_end (goal.at.of-self-requires c).In-Some-in_force) _ _ _ c.close-count.ensures

pub returns : goal.returns
returns c =
    done_end _ c.requires _ _ (passes (goal.at.returns c).In_default) _ (next_day_is (goal.at.returns c).In-Some) (is_set (goal.at.returns c).In-Some-in_force) _ (same_end (goal.at.returns c).In-Some-in_force) _ _ _ c.close-count.ensures _ c.of-self.ensures.value
