-- `cancel_change` meets its contract.
use mathlib.Core.Path.{refl, sym, ◌∙◌}
use Rattle.basics.proofs.Reasons.{number_some, left_by, number_by, zero_by}
use Rattle.ledger.specs.Ledger.{refused_change}
use Rattle.ledger.proofs.Valid.{found_sound}
use Rattle.refusals.proofs.Named.{input_refused, absent_refused, found_refused, found_done}
use Rattle.book.specs.Instructing.{cancel_change}
use Rattle.book.proofs.instructing.cancel_change.Goals as goal

pub returns-in_err-member_in : goal.returns-in_err-member_in
unfolding cancel_change
returns-in_err-member_in c =
    rw (left_by c.from_residual.ensures.1)
    (input_refused _ _ _ refused_change _ _ (number_by c.member_in.ensures c.in_err-member_in.was) (number_some _))

pub returns-in_default : goal.returns-in_default
unfolding cancel_change
returns-in_default c =
    absent_refused _ _ _ refused_change refl (zero_by c.member_in.ensures c.in_ok-member_in.was) _ (sym c.fetch.ensures ∙ c.in_default.is)

pub returns-in_err-cancel_of : goal.returns-in_err-cancel_of
unfolding cancel_change
returns-in_err-cancel_of c =
    rw (left_by c.from_residual-in_err-cancel_of.ensures.1)
    (found_refused _ _ _ refused_change refl (zero_by c.member_in.ensures c.in_ok-member_in.was) _ _ _ (sym c.fetch.ensures ∙ c.in-Found.is)
    (number_by c.cancel_of.ensures c.in_err-cancel_of.was) (number_some _))

pub wish-requires : goal.wish-requires
wish-requires c = found_sound c.args.ledger.now c.requires c.args.obligation _ (sym c.fetch.ensures ∙ c.in-Found.is)

pub returns : goal.returns
unfolding cancel_change
returns c =
    (λ i. record { answer = 0; result = c.moved_by_wish.ensures i; obligation = c.wish.ensures i })
    ∙ found_done _ _ _ refused_change refl (zero_by c.member_in.ensures c.in_ok-member_in.was) _ _ (sym c.fetch.ensures ∙ c.in-Found.is)
    (zero_by c.cancel_of.ensures c.in_ok-cancel_of.was)
