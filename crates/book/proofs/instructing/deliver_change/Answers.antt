-- `deliver_change` meets its contract.
use mathlib.Core.Path.{refl, sym, ◌∙◌}
use borrow.Author.Tests.{ltb-false}
use Rattle.basics.proofs.Reasons.{number_some, left_by, number_by, zero_by}
use Rattle.basics.proofs.Refusals.{passed}
use Rattle.ledger.specs.Obligations.{Takes}
use Rattle.ledger.specs.Ledger.{refused_change}
use Rattle.ledger.proofs.Valid.{found_sound}
use Rattle.refusals.specs.Calls.{deliver_refusals_of}
use Rattle.refusals.proofs.Named.{input_refused, absent_refused, found_refused, found_done}
use Rattle.book.specs.Instructing.{deliver_change}
use Rattle.book.proofs.instructing.deliver_change.Goals as goal
use Rattle.book.proofs.instructing.deliver_change.Goals.{In_ok-deliver_of}

-- no more of it is delivered than is outstanding
takes : (c : In_ok-deliver_of) → Takes c.in-Found.found c.args.quantity
unfolding deliver_refusals_of
takes c = record {
  sound = found_sound c.args.ledger.now c.requires c.args.obligation _ (sym c.fetch.ensures ∙ c.in-Found.is);
  enough = ltb-false _ _ (passed 15 _ _ (zero_by c.deliver_of.ensures c.in_ok-deliver_of.was) refl).0;
}

pub returns-in_err-deliver_in : goal.returns-in_err-deliver_in
unfolding deliver_change
returns-in_err-deliver_in c =
    rw (left_by c.from_residual.ensures.1)
    (input_refused _ _ _ refused_change _ _ (number_by c.deliver_in.ensures c.in_err-deliver_in.was) (number_some _))

pub returns-in_default : goal.returns-in_default
unfolding deliver_change
returns-in_default c =
    absent_refused _ _ _ refused_change refl (zero_by c.deliver_in.ensures c.in_ok-deliver_in.was) _ (sym c.fetch.ensures ∙ c.in_default.is)

pub returns-in_err-deliver_of : goal.returns-in_err-deliver_of
unfolding deliver_change
returns-in_err-deliver_of c =
    rw (left_by c.from_residual-in_err-deliver_of.ensures.1)
    (found_refused _ _ _ refused_change refl (zero_by c.deliver_in.ensures c.in_ok-deliver_in.was) _ _ _ (sym c.fetch.ensures ∙ c.in-Found.is)
    (number_by c.deliver_of.ensures c.in_err-deliver_of.was) (number_some _))

pub cash_for-requires : goal.cash_for-requires
cash_for-requires c = takes (goal.at.cash_for-requires c).In_ok-deliver_of

pub move_to-requires : goal.move_to-requires
move_to-requires c = takes (goal.at.move_to-requires c).In_ok-deliver_of

pub returns : goal.returns
unfolding deliver_change
returns c =
    (λ i. record { answer = 0; result = c.cash_for.ensures i; obligation = c.move_to.ensures i })
    ∙ found_done _ _ _ refused_change refl (zero_by c.deliver_in.ensures c.in_ok-deliver_in.was) _ _ (sym c.fetch.ensures ∙ c.in-Found.is)
    (zero_by c.deliver_of.ensures c.in_ok-deliver_of.was)
