-- `may_withdraw` meets its contract.
use Prim.Native.Nat.{ℕ}
use Rattle.std.specs.Prelude.{Option, Some, None}
use native.Mathlib.Omega.{arith}
use mathlib.Core.Path.{◌≡◌, refl, sym, ap, ◌∙◌}
use mathlib.Core.Bool.{false}
use mathlib.Core.List.{[]}
use borrow.Author.Tests.{eq-eqb, ne_eqb}
use Rattle.basics.specs.declared.Reason.TheVariants.{NotFound}
use Rattle.basics.specs.Refusals.{answer}
use Rattle.basics.proofs.Reasons.{number_some, left_by, number_by, zero_by}
use Rattle.basics.proofs.Refusals.{pass, stop, passed, all_passed, refused_ahead}
use Rattle.instructions.specs.declared.Leg.{Leg}
use Rattle.instructions.specs.Legs.{fetched_leg}
use Rattle.netting.specs.Accounts.{no_member}
use Rattle.refusals.specs.Calls.{member_refusals_in}
use Rattle.book.specs.Instructing.{withdraw_refusals}
use Rattle.book.proofs.instructing.may_withdraw.Goals as goal
use Rattle.book.proofs.instructing.may_withdraw.Goals.{In_ok-member_in, In_ok-found}

-- a member that is none is refused, whatever is fetched
first : (f : Option Leg) (member k : ℕ) → answer (member_refusals_in member) ≡ k → (k ≡ 0 → ⊥) → answer (withdraw_refusals f member) ≡ k
unfolding withdraw_refusals
first None member k e z = refused_ahead (member_refusals_in member) _ k e z
first (Some l) member k e z = refused_ahead (member_refusals_in member) _ k e z

-- there is such a member
passes : (c : In_ok-member_in) → no_member c.args.member ≡ false
passes c = (passed 1 _ [] (zero_by c.member_in.ensures c.in_ok-member_in.was) refl).0

pub returns-in_err-member_in : goal.returns-in_err-member_in
returns-in_err-member_in c =
    rw (left_by c.from_residual.ensures.1) (sym (first _ _ _ (number_by c.member_in.ensures c.in_err-member_in.was) (number_some _)))

by_fetch : {f g : Option Leg} (member : ℕ) → f ≡ g → answer (withdraw_refusals f member) ≡ answer (withdraw_refusals g member)
by_fetch member q = ap (λ (x : Option Leg). answer (withdraw_refusals x member)) q

-- the leg was found
finds : (c : In_ok-found) → fetched_leg c.args.legs.now c.args.leg ≡ Some c.in_ok-found.found
finds c = sym c.fetch.ensures ∙ grind arith

pub returns-in_err-found : goal.returns-in_err-found
unfolding withdraw_refusals
returns-in_err-found c =
    let absent : c.fetch.result ≡ None = grind arith in
    let reason : c.in_err-found.field-0.0 ≡ NotFound = grind arith in
    rw (left_by c.from_residual-in_err-found.ensures.1, reason)
    (sym (by_fetch _ (sym c.fetch.ensures ∙ absent) ∙ pass 1 _ (passes (goal.at.returns-in_err-found c).In_ok-member_in) ∙ stop 13 _ refl))

pub returns-then-not-is_waiting : goal.returns-then-not-is_waiting
unfolding withdraw_refusals
returns-then-not-is_waiting c =
    let at = goal.at.returns-then-not-is_waiting c in
    sym (by_fetch _ (finds at.In_ok-found) ∙ pass 1 _ (passes at.In_ok-member_in) ∙ stop 13 _ (rw (← c.is_waiting.ensures) (grind arith)))

pub returns-then-found-member : goal.returns-then-found-member
unfolding withdraw_refusals
returns-then-found-member c =
    let at = goal.at.returns-then-found-member c in
    sym (by_fetch _ (finds at.In_ok-found) ∙ pass 1 _ (passes at.In_ok-member_in) ∙ pass 13 _ (rw (← c.is_waiting.ensures) (grind arith))
    ∙ stop 14 _ (rw (ne_eqb _ _ c.if-found-member.true)))

pub returns : goal.returns
unfolding withdraw_refusals
returns c =
    let at = goal.at.returns c in
    sym (by_fetch _ (finds at.In_ok-found) ∙ pass 1 _ (passes at.In_ok-member_in) ∙ pass 13 _ (rw (← c.is_waiting.ensures) (grind arith))
    ∙ pass 14 _ (rw (eq-eqb _ _ c.if-found-member.false)) ∙ all_passed)
