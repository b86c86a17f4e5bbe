-- `enter` meets its contract.
use native.Mathlib.Omega.{arith}
use mathlib.Core.Path.{◌≡◌, ap, sym, subst⁻¹, ◌∙◌}
use Rattle.std.specs.Prelude.{ℕ, Result}
use Rattle.basics.specs.declared.Reason.{Reason}
use Rattle.basics.specs.Reasons.{answer_of}
use Rattle.basics.specs.Refusals.{outcome}
use Rattle.instructions.specs.declared.Instruction.{Instruction}
use Rattle.instructions.specs.declared.Entry.{Entry}
use Rattle.instructions.specs.Legs.{leg_of}
use Rattle.instructions.specs.Match.{lowest_fit}
use Rattle.instructions.specs.Entry.{Enterable}
use Rattle.book.specs.declared.Entered.{Entered}
use Rattle.book.specs.Book.{with_legs, with_ledger}
use Rattle.book.specs.Instructing.{Matchable, enter_returns, entered_by, enter_refused, enter}
use Rattle.book.proofs.Answers.{answered}
use Rattle.book.proofs.Kept.{Good, good, enter_valid}
use Rattle.book.proofs.Entering.{entry_enterable, entry_matchable, entered_outcome}
use Rattle.book.proofs.Book.enter.Goals as goal
use Rattle.book.proofs.Book.enter.Goals.{After-enter-allowed}

-- the instruction
abbrev asked : After-enter-allowed → Instruction
asked c = let a = c.args in
    record { member = a.member; other = a.other; side = a.side; quantity = a.quantity; amount = a.amount; day = a.day }

-- an instruction that is not refused
fine : (c : After-enter-allowed) → answer_of c.enter-allowed.result ≡ 0 → Good c.args.self c.requires (leg_of (asked c))
fine c z = good _ c.requires _ (sym c.enter-allowed.ensures ∙ z)

pub entry-entry-requires : goal.entry-entry-requires
entry-entry-requires c = (
  c.requires.legs.few,
  λ zero. let g = good _ c.requires _ (sym c.enter-allowed.ensures ∙ zero) in record {
    member_fits = omega (arith, g.member_below);
    other_fits = omega (arith, g.other_below);
    side_fits = omega (arith, g.side_most);
    quantity_fits = g.quantity_within.1;
  },
)

pub with_match-requires : goal.with_match-requires
with_match-requires c =
    let here = (goal.at.with_match-requires c).After-enter-allowed in
    subst⁻¹ (λ (e : Result Entry Reason). Matchable e c.args.self.ledger) c.entry-entry.ensures (entry_matchable _ c.requires (asked here) _ (fine here))

pub enter-requires : goal.enter-requires
enter-requires c =
    let here = (goal.at.enter-requires c).After-enter-allowed in (
      subst⁻¹ (λ (e : Result Entry Reason). Enterable e c.args.self.legs) c.entry-entry.ensures (entry_enterable _ c.requires (asked here) _ (fine here)),
      omega (arith, c.requires.ledger.few),
    )

pub returns : goal.returns
unfolding enter
returns c =
    let b = c.args.self in
    let here = (goal.at.returns c).After-enter-allowed in
    let i = asked here in
    let same : ◌≡◌ {A = Entered} _ (enter_returns b c.entry-entry.result) = λ j. record {
      answer = c.answer_of-answer.ensures j;
      leg = c.leg_number-leg.ensures j;
      obligation = c.obligation_number-obligation.ensures j;
      book = with_legs (c.enter.ensures j) (with_ledger (c.with_match.ensures j) b);
    } in
    answered (λ (r : Entered). r.book)
    (same
    ∙ ap (enter_returns b) c.entry-entry.ensures
    ∙ entered_outcome b i c.enter-allowed.result
    ∙ ap (λ (n : ℕ). outcome n (entered_by b (leg_of i) (lowest_fit b.legs (leg_of i))) (enter_refused b)) c.enter-allowed.ensures)
    (enter_valid b c.requires i.member i.other i.side i.quantity i.amount i.day)
