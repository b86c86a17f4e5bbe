-- What a call comes to on the obligation that it names, and what it then returns: if it is done, its result and the ledger
-- with the obligation changed; if it is refused, its number, 0 and the ledger as it was.
use Prim.Native.Nat.{ℕ, ◌≤◌, ◌<◌}
use native.Mathlib.Omega.{arith}
use Rattle.std.specs.Prelude.{Result, Ok, Err}
use mathlib.Core.Path.{◌≡◌, refl, sym, ap, ◌∙◌}
use mathlib.Core.Bool.{true}
use mathlib.Core.List.{List}
use borrow.Author.Tests.{ne_eqb}
use Rattle.basics.specs.declared.Reason.{Reason}
use Rattle.basics.specs.Reasons.{answer_of}
use Rattle.basics.specs.Refusals.{Refusal}
use Rattle.basics.proofs.Refusals.{rising_from}
use Rattle.ledger.specs.declared.Obligation.{Obligation}
use Rattle.ledger.specs.declared.Change.{Change}
use Rattle.ledger.specs.declared.Ledger.{Ledger}
use Rattle.ledger.specs.Ledger.{most_obligations, fetched, with_obligation, Effect, refused_change, effect_of, changed}
use Rattle.refusals.specs.Calls.{fetch_outcome}
use Rattle.refusals.proofs.Named.{fetch_case, fetch_case₂}

module _ (input : List Refusal) (on : Obligation → List Refusal) (shown : Obligation → ℕ) (next : Obligation → Obligation)
    (p : rising_from 0 input ≡ true) (l : Ledger) (n : ℕ) where
  -- an obligation on which the call is done
  abbrev done : Obligation → Effect
  done o = record { answer = 0; result = shown o; obligation = next o }

  -- what the call comes to
  abbrev change : Effect
  change = fetch_outcome input (fetched l n) on done refused_change

  -- `told` makes what is returned from the answer number, the result and the ledger
  told_by : {A : Type 0} (told : ℕ → ℕ → Ledger → A) →
      told change.answer change.result (changed n change l)
      ≡ fetch_outcome input (fetched l n) on (λ o. told 0 (shown o) (with_obligation n (next o) l)) (λ k. told k 0 l)
  told_by told =
      fetch_case₂ input on done refused_change (λ c r. told c.answer c.result (changed n c l) ≡ r)
      (λ o. told 0 (shown o) (with_obligation n (next o) l)) (λ k. told k 0 l) l n p
      (λ k z. rw (ne_eqb k 0 z)) (λ h i j. refl)

  module _ (t : Result Change Reason) (is : effect_of t ≡ change) where
    number : (u : Result Change Reason) → (effect_of u).answer ≡ answer_of u
    number (Ok d) = refl
    number (Err r) = refl

    -- if the call is done, the obligation has a place
    pub change_placed : l.count ≤ most_obligations → answer_of t ≡ 0 → n < most_obligations
    change_placed few z =
        fetch_case input on done refused_change (λ x. x.answer ≡ 0 → n < most_obligations) l n p (λ k y e. absurd (y e)) (λ h i j e. omega arith)
        (sym (ap (λ (x : Effect). x.answer) is) ∙ number t ∙ z)

    -- what the call returns with the ledger after it
    pub change_told : {A : Type 0} (told : ℕ → ℕ → Ledger → A) {k r : ℕ} {after : Ledger} →
        k ≡ answer_of t → r ≡ (effect_of t).result → after ≡ changed n (effect_of t) l →
        told k r after ≡ fetch_outcome input (fetched l n) on (λ o. told 0 (shown o) (with_obligation n (next o) l)) (λ k. told k 0 l)
    change_told told answered shown made =
        (λ i. told ((answered ∙ sym (number t)) i) (shown i) (made i)) ∙ ap (λ (x : Effect). told x.answer x.result (changed n x l)) is ∙ told_by told
