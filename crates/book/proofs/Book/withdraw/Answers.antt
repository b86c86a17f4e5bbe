-- `withdraw` meets its contract.
use Prim.Native.Nat.{ℕ, ◌≤◌, ◌<◌}
use Rattle.std.specs.Prelude.{Option, Some, None}
use native.Mathlib.Omega.{arith}
use mathlib.Core.Path.{◌≡◌, refl, sym, ap, ap₂, ◌∙◌}
use mathlib.Core.Bool.{false≢true}
use Rattle.basics.specs.Refusals.{answer}
use Rattle.basics.proofs.Refusals.{passed, refused_with, done_by}
use Rattle.instructions.specs.declared.Legs.{Legs}
use Rattle.instructions.specs.declared.Leg.{Leg}
use Rattle.instructions.specs.Legs.{most_legs, fetched_leg}
use Rattle.instructions.proofs.Fetching.{fetched_leg_case}
use Rattle.book.specs.declared.Book.{Book}
use Rattle.book.specs.declared.Done.{Done}
use Rattle.book.specs.Book.{with_legs}
use Rattle.book.specs.Instructing.{withdraw_refusals, done_refused, withdraw_done, withdraw_by, withdraw}
use Rattle.book.proofs.Answers.{answered}
use Rattle.book.proofs.Kept.{withdraw_valid}
use Rattle.book.proofs.Book.withdraw.Goals as goal
use Rattle.book.proofs.Book.withdraw.Goals.{else-answer-eq0, then-answer-eq0}

-- an absent leg is refused
absent_some : (member : ℕ) → answer (withdraw_refusals None member) ≡ 0 → ⊥
unfolding withdraw_refusals
absent_some member e = false≢true (sym (passed _ _ _ (passed 1 _ _ e refl).1 refl).0)

-- a leg whose Withdraw is not refused is there
there : (legs : Legs) (n member : ℕ) → legs.count ≤ most_legs → answer (withdraw_refusals (fetched_leg legs n) member) ≡ 0 → n < most_legs
there legs n member few =
    fetched_leg_case (λ f. answer (withdraw_refusals f member) ≡ 0 → n < most_legs) legs n (λ e. absurd (absent_some member e)) (λ h e. omega arith)

-- what a Withdraw returns, by its answer number
refused_as : (b : Book) (n member : ℕ) (f : Option Leg) (k : ℕ) → answer (withdraw_refusals f member) ≡ k → (k ≡ 0 → ⊥) → done_refused b k ≡ withdraw_by b n member f
unfolding withdraw_by
refused_as b n member None k e z = ap (done_refused b) (sym e)
refused_as b n member (Some l) k e z = refused_with k (withdraw_refusals (Some l) member) (withdraw_done b n) (done_refused b) e z

done_as : (b : Book) (n member : ℕ) (f : Option Leg) → answer (withdraw_refusals f member) ≡ 0 → withdraw_done b n ≡ withdraw_by b n member f
unfolding withdraw_by
done_as b n member None e = absurd (absent_some member e)
done_as b n member (Some l) e = done_by (withdraw_refusals (Some l) member) (withdraw_done b n) (done_refused b) e

pub may_withdraw-allowed-requires : goal.may_withdraw-allowed-requires
may_withdraw-allowed-requires c = c.requires.legs.few

pub set_state-requires : goal.set_state-requires
set_state-requires c =
    there _ _ _ c.requires.legs.few (sym (c.answer_of-answer.ensures ∙ c.may_withdraw-allowed.ensures) ∙ c.if-answer-eq0.true)

pub returns : goal.returns
unfolding withdraw
returns c =
    let a = c.args in
    let e = sym (c.answer_of-answer.ensures ∙ c.may_withdraw-allowed.ensures) in
    let made : ℕ → Legs → Done = λ (k : ℕ) (legs : Legs). record { answer = k; book = with_legs legs a.self } in
    answered (λ (r : Done). r.book)
    (elim c.if-answer-eq0.branch [ then-answer-eq0 w ↦ ap₂ made w.if-answer-eq0.true (w.legs-is ∙ w.set_state.ensures) ∙ done_as a.self a.leg a.member _ (e ∙ w.if-answer-eq0.true) | else-answer-eq0 w ↦ ap (made _) w.legs-is ∙ refused_as a.self a.leg a.member _ _ e w.if-answer-eq0.false ])
    (withdraw_valid _ c.requires a.leg a.member)
