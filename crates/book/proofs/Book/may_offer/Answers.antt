-- `may_offer` meets its contract.
use mathlib.Core.Path.{refl, sym, ap, ◌∙◌}
use Rattle.basics.specs.Refusals.{answer}
use Rattle.basics.proofs.Reasons.{number_some, left_by, number_by, zero_by}
use Rattle.calendar.specs.declared.ClearingDays.{ClearingDays}
use Rattle.ledger.proofs.Valid.{found_sound}
use Rattle.refusals.specs.Calls.{offer_refusals_in, offer_refusals_of}
use Rattle.refusals.proofs.Offering.{offered}
use Rattle.refusals.proofs.Named.{input_answer, absent_answer, found_answer}
use Rattle.book.specs.Buying.{offer_refusals_for, offer_refusals}
use Rattle.book.proofs.Book.may_offer.Goals as goal

pub returns-in_err-offer_in : goal.returns-in_err-offer_in
unfolding offer_refusals
returns-in_err-offer_in c =
    let a = c.args in
    rw (left_by c.from_residual.ensures.1)
    (sym (input_answer _ (offer_refusals_for a.self.now a.price) _ _ (number_by c.offer_in.ensures c.in_err-offer_in.was) (number_some _)))

pub returns-in_default : goal.returns-in_default
unfolding offer_refusals offer_refusals_in
returns-in_default c =
    let a = c.args in
    sym (absent_answer _ (offer_refusals_for a.self.now a.price) refl _ (zero_by c.offer_in.ensures c.in_ok-offer_in.was) (sym c.fetch.ensures ∙ c.in_default.is))

pub offer_of-requires : goal.offer_of-requires
offer_of-requires c = (
  c.requires.setup.terms,
  (offered _ _ _ (zero_by c.offer_in.ensures c.in_ok-offer_in.was)).price_within.1,
  (found_sound _ c.requires.ledger c.args.obligation _ (sym c.fetch.ensures ∙ c.in-Found.is)).stage.price_most,
)

pub returns : goal.returns
unfolding offer_refusals offer_refusals_in
returns c =
    let a = c.args in
    let b = a.self.now in
    let o = c.in-Found.found in
    c.offer_of.ensures
    ∙ ap (λ (g : ClearingDays). answer (offer_refusals_of b.setup.terms b.day.today g.0 b.ledger.offers.count o a.price)) c.age_at-age.ensures
    ∙ sym (found_answer _ (offer_refusals_for b a.price) refl _ o (zero_by c.offer_in.ensures c.in_ok-offer_in.was) (sym c.fetch.ensures ∙ c.in-Found.is))
