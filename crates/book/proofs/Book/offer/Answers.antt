-- `offer` meets its contract.
use Prim.Native.Nat.{ℕ, ◌<◌}
use native.Mathlib.Omega.{arith}
use mathlib.Core.Path.{◌≡◌, refl, sym, ap, ap₂, ◌∙◌}
use Rattle.basics.specs.Refusals.{answer}
use Rattle.basics.proofs.Refusals.{refused_with, done_by}
use Rattle.offers.specs.declared.Offers.{Offers}
use Rattle.ledger.specs.Ledger.{fetched, obligation_at}
use Rattle.refusals.specs.Calls.{fetch_refusals, offer_refusals_in}
use Rattle.refusals.proofs.Offering.{Offered, offered, offers_few}
use Rattle.refusals.proofs.Named.{fetch_passed, fetch_number}
use Rattle.book.specs.declared.Done.{Done}
use Rattle.book.specs.Book.{with_ledger}
use Rattle.book.specs.Instructing.{done_refused}
use Rattle.book.specs.Buying.{offer_refusals_for, offer_refusals, offer_done, offer}
use Rattle.book.proofs.Answers.{answered}
use Rattle.book.proofs.Kept.{offer_valid}
use Rattle.book.proofs.Book.offer.Goals as goal
use Rattle.book.proofs.Book.offer.Goals.{After-answer_of-answer, Then-answer-eq0, else-answer-eq0, then-answer-eq0}

-- the answer number, by the obligation that the book fetches
number : (c : After-answer_of-answer) →
    let a = c.args in
    answer (fetch_refusals (offer_refusals_in a.supplier a.quantity a.price) (fetched a.self.ledger a.obligation) (offer_refusals_for a.self a.price))
    ≡ c.answer_of-answer.result
unfolding offer_refusals
number c = sym (c.answer_of-answer.ensures ∙ c.may_offer-allowed.ensures)

-- an offer that is not refused
passes : (c : After-answer_of-answer) → c.answer_of-answer.result ≡ 0 →
    let a = c.args in
    (a.obligation < a.self.ledger.count) × (answer (offer_refusals_in a.supplier a.quantity a.price) ≡ 0)
    × (answer (offer_refusals_for a.self a.price (obligation_at a.self.ledger a.obligation)) ≡ 0)
unfolding offer_refusals_in
passes c e = let a = c.args in fetch_passed _ (offer_refusals_for a.self a.price) refl a.self.ledger a.obligation (number c ∙ e)

-- its numbers
numbers : (c : Then-answer-eq0) → let a = c.args in Offered a.supplier a.quantity a.price
numbers c = offered _ _ _ (passes c.before c.if-answer-eq0.true).1

pub overflow_cast-obligation : goal.overflow_cast-obligation
overflow_cast-obligation c = let w = (goal.at.overflow_cast-obligation c).Then-answer-eq0 in record { fits = omega (arith, (passes w.before w.if-answer-eq0.true).0, c.requires.ledger.few) }

pub overflow_cast-supplier : goal.overflow_cast-supplier
overflow_cast-supplier c = record { fits = omega (arith, (numbers (goal.at.overflow_cast-supplier c).Then-answer-eq0).supplier_most) }

pub overflow_cast-quantity : goal.overflow_cast-quantity
overflow_cast-quantity c = record { fits = omega (arith, (numbers (goal.at.overflow_cast-quantity c).Then-answer-eq0).quantity_within.1) }

pub overflow_cast-price : goal.overflow_cast-price
overflow_cast-price c = record { fits = omega (arith, (numbers (goal.at.overflow_cast-price c).Then-answer-eq0).price_within.1) }

pub insert-requires : goal.insert-requires
insert-requires c = let w = (goal.at.insert-requires c).Then-answer-eq0 in offers_few _ _ _ _ _ _ (passes w.before w.if-answer-eq0.true).2

pub returns : goal.returns
unfolding offer offer_refusals_in
returns c =
    let a = c.args in
    let l = a.self.ledger in
    let input = offer_refusals_in a.supplier a.quantity a.price in
    let on = offer_refusals_for a.self a.price in
    let refusals = fetch_refusals input (fetched l a.obligation) on in
    let done = offer_done a.self a.obligation a.supplier a.quantity a.price in
    let made : ℕ → Offers → Done = λ (k : ℕ) (held : Offers).
    record { answer = k; book = with_ledger (record { obligations = l.obligations; count = l.count; offers = held; accounts = l.accounts }) a.self } in
    let e = number (goal.at.returns c).After-answer_of-answer in
    answered (λ (r : Done). r.book)
    (elim c.if-answer-eq0.branch [ then-answer-eq0 w ↦ ap₂ made w.if-answer-eq0.true (w.held-is ∙ w.insert.ensures) ∙ done_by refusals done (done_refused a.self) (e ∙ w.if-answer-eq0.true) | else-answer-eq0 w ↦ ap (made _) w.held-is ∙ refused_with _ refusals done (done_refused a.self) e w.if-answer-eq0.false ]
    ∙ fetch_number input on (λ o. done) (done_refused a.self) done refl (fetched l a.obligation))
    (offer_valid _ c.requires a.obligation a.supplier a.quantity a.price)
