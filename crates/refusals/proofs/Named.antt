-- Calls that name an obligation: their outcome, by the refusals of the input and the answer of the fetch.
use Prim.Native.Nat.{ℕ, ◌<◌}
use mathlib.Core.Path.{◌≡◌, refl, sym, ap, ◌∙◌}
use mathlib.Core.Bool.{true, false≢true}
use mathlib.Core.List.{List, []}
use Rattle.basics.specs.Refusals.{Refusal, answer, outcome}
use Rattle.basics.proofs.Refusals.{pass, stop, passed, done_by, refused_with, by_number₂, refused_ahead, passed_ahead, ahead_passed, rising_from, is_printed, Refuses, outcome_refuses}
use Rattle.ledger.specs.declared.Obligation.{Obligation}
use Rattle.ledger.specs.declared.Ledger.{Ledger}
use Rattle.ledger.specs.declared.Fetched.{Fetched}
use Rattle.ledger.specs.declared.Fetched.TheVariants.{Found, Absent}
use Rattle.ledger.specs.Ledger.{obligation_at, fetched}
use Rattle.ledger.proofs.Valid.{fetched_case}
use Rattle.refusals.specs.Calls.{fetch_refusals, fetch_outcome}

-- ---- the answer number
module _ (input : List Refusal) (on : Obligation → List Refusal) where
  -- of a call refused by its input, whatever the fetch answers
  pub input_answer : (f : Fetched) (k : ℕ) → answer input ≡ k → (k ≡ 0 → ⊥) → answer (fetch_refusals input f on) ≡ k
  input_answer Absent k e z = refused_ahead input _ k e z
  input_answer (Found o) k e z = refused_ahead input _ k e z

  module _ (p : rising_from 0 input ≡ true) where
    -- the obligation is absent: 13
    pub absent_answer : (f : Fetched) → answer input ≡ 0 → f ≡ Absent → answer (fetch_refusals input f on) ≡ 13
    absent_answer f e q = rw q (passed_ahead input _ (is_printed input p).some e ∙ stop 13 [] refl)

    -- it was found: the answer is that of the refusals on it
    pub found_answer : (f : Fetched) (o : Obligation) → answer input ≡ 0 → f ≡ Found o → answer (fetch_refusals input f on) ≡ answer (on o)
    found_answer f o e q = rw q (passed_ahead input _ (is_printed input p).some e ∙ pass _ (on o) refl)

    -- a call on an absent obligation is refused
    absent_some : answer (fetch_refusals input Absent on) ≡ 0 → ⊥
    absent_some e = false≢true (sym (passed _ _ _ (ahead_passed input _ (is_printed input p).some e).1 refl).0)

    -- one that passes all refusals names an obligation that is there, and passes those of the input and those on it
    pub fetch_passed : (l : Ledger) (n : ℕ) → answer (fetch_refusals input (fetched l n) on) ≡ 0 →
        (n < l.count) × (answer input ≡ 0) × (answer (on (obligation_at l n)) ≡ 0)
    fetch_passed l n =
        fetched_case (λ x. answer (fetch_refusals input x on) ≡ 0 → (n < l.count) × (answer input ≡ 0) × (answer (on (obligation_at l n)) ≡ 0)) l n
        (λ e. absurd (absent_some e))
        (λ h e. let q = ahead_passed input _ (is_printed input p).some e in (h, q.0, (passed _ _ (on (obligation_at l n)) q.1 refl).1))

-- ---- the outcome
module _ {A : Type 0} (input : List Refusal) (on : Obligation → List Refusal) (done : Obligation → A) (refused : ℕ → A) where
  -- refused by the input, whatever the fetch answers
  pub input_refused : (f : Fetched) (k : ℕ) → answer input ≡ k → (k ≡ 0 → ⊥) → refused k ≡ fetch_outcome input f on done refused
  unfolding fetch_outcome
  input_refused Absent k e z = ap refused (sym (input_answer input on Absent k e z))
  input_refused (Found o) k e z =
      refused_with k (fetch_refusals input (Found o) on) (done o) refused (input_answer input on (Found o) k e z) z

  module _ (p : rising_from 0 input ≡ true) (e : answer input ≡ 0) where
    -- the obligation is absent: 13
    pub absent_refused : (f : Fetched) → f ≡ Absent → refused 13 ≡ fetch_outcome input f on done refused
    unfolding fetch_outcome
    absent_refused f q = rw q (ap refused (sym (absent_answer input on p Absent e refl)))

    -- it was found: the outcome goes by the refusals on it
    pub found_refused : (f : Fetched) (o : Obligation) (k : ℕ) → f ≡ Found o → answer (on o) ≡ k → (k ≡ 0 → ⊥) →
        refused k ≡ fetch_outcome input f on done refused
    unfolding fetch_outcome
    found_refused f o k q h z = rw q (refused_with k (fetch_refusals input (Found o) on) (done o) refused (found_answer input on p (Found o) o e refl ∙ h) z)

    pub found_done : (f : Fetched) (o : Obligation) → f ≡ Found o → answer (on o) ≡ 0 → done o ≡ fetch_outcome input f on done refused
    unfolding fetch_outcome
    found_done f o q h = rw q (done_by (fetch_refusals input (Found o) on) (done o) refused (found_answer input on p (Found o) o e refl ∙ h))

  -- a call that is done in one way on every obligation goes by its answer number
  pub fetch_number : (d : A) → rising_from 0 input ≡ true → (f : Fetched) →
      outcome (answer (fetch_refusals input f on)) d refused ≡ fetch_outcome input f on (λ o. d) refused
  unfolding fetch_outcome
  fetch_number d p Absent =
      sym (refused_with (answer (fetch_refusals input Absent on)) (fetch_refusals input Absent on) d refused refl (absent_some input on p))
  fetch_number d p (Found o) = refl

  -- the answer number is that of the refusals by the answer of the fetch
  pub fetch_refuses : (number : A → ℕ) (f : Fetched) → rising_from 0 (fetch_refusals input Absent on) ≡ true →
      ((o : Obligation) → rising_from 0 (fetch_refusals input (Found o) on) ≡ true) → ((o : Obligation) → number (done o) ≡ 0) →
      ((k : ℕ) → number (refused k) ≡ k) → Refuses (fetch_refusals input f on) (number (fetch_outcome input f on done refused))
  unfolding fetch_outcome
  fetch_refuses number Absent p ps d r = record { printed = is_printed (fetch_refusals input Absent on) p; given = r _ }
  fetch_refuses number (Found o) p ps d r = outcome_refuses number (fetch_refusals input (Found o) on) (done o) refused (ps o) (d o) r

  -- What holds of two calls that are refused, and of the two done on an obligation that is there, holds of their outcomes,
  -- if both go by the same refusals.
  pub fetch_case₂ : {B : Type 0} (P : A → B → Type 0) (done' : Obligation → B) (refused' : ℕ → B) (l : Ledger) (n : ℕ) →
      rising_from 0 input ≡ true → ((k : ℕ) → (k ≡ 0 → ⊥) → P (refused k) (refused' k)) →
      (n < l.count → answer input ≡ 0 → answer (on (obligation_at l n)) ≡ 0 → P (done (obligation_at l n)) (done' (obligation_at l n))) →
      P (fetch_outcome input (fetched l n) on done refused) (fetch_outcome input (fetched l n) on done' refused')
  unfolding fetch_outcome
  fetch_case₂ P done' refused' l n p f g =
      fetched_case (λ x. P (fetch_outcome input x on done refused) (fetch_outcome input x on done' refused')) l n (f _ (absent_some input on p))
      (λ h.
      let o = obligation_at l n in
      by_number₂ P (answer (fetch_refusals input (Found o) on)) (done o) refused (done' o) refused' (f _)
      (λ e. let q = ahead_passed input _ (is_printed input p).some e in g h q.0 (passed _ _ (on o) q.1 refl).1))

  -- what holds of a refused call and of one that is done, on an obligation that is there, holds of its outcome
  pub fetch_case : (P : A → Type 0) (l : Ledger) (n : ℕ) → rising_from 0 input ≡ true → ((k : ℕ) → (k ≡ 0 → ⊥) → P (refused k)) →
      (n < l.count → answer input ≡ 0 → answer (on (obligation_at l n)) ≡ 0 → P (done (obligation_at l n))) →
      P (fetch_outcome input (fetched l n) on done refused)
  fetch_case P l n p f g = fetch_case₂ (λ (x : A) (y : A). P x) done refused l n p f g
