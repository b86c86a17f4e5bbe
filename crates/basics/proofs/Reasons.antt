-- The numbers of the reasons: none of them is 0, so a refused call is told from one that is done by its answer number.
use Prim.Native.Nat.{ℕ}
use Rattle.std.specs.Prelude.{Result, Ok, Err, IsErrAnd}
use Rattle.std.proofs.lemmas.Result.{err_from_is_err_and}
use mathlib.Core.Path.{◌≡◌, refl, sym, ap, ◌∙◌}
use mathlib.Core.Bool.{false}
use mathlib.Core.List.{List}
use lib.Dec.{eqb}
use borrow.Author.Tests.{eqb-false}
use Rattle.basics.specs.declared.Reason.{Reason}
use Rattle.basics.specs.declared.Reason.TheVariants.{BadParty, BadQuantity, BadAmount, BadClosedDays, BadLength, BadDay, LegsFull, NotFound, NotEntitled, TooLittleOutstanding, WrongStage, OffersFull, AboveCap, OverCollected, NoNextDay, NoCloseSince, NeverClosed, BadYears, BadStart, RatesFull, NoRate}
use Rattle.basics.specs.Reasons.{number_of, answer_of}
use Rattle.basics.specs.Refusals.{Refusal, answer, outcome}
use Rattle.basics.proofs.Refusals.{done_by, refused_by}

pub number_eqb : (r : Reason) → eqb (number_of r) 0 ≡ false
number_eqb BadParty = refl
number_eqb BadQuantity = refl
number_eqb BadAmount = refl
number_eqb BadClosedDays = refl
number_eqb BadLength = refl
number_eqb BadDay = refl
number_eqb LegsFull = refl
number_eqb NotFound = refl
number_eqb NotEntitled = refl
number_eqb TooLittleOutstanding = refl
number_eqb WrongStage = refl
number_eqb OffersFull = refl
number_eqb AboveCap = refl
number_eqb OverCollected = refl
number_eqb NoNextDay = refl
number_eqb NoCloseSince = refl
number_eqb NeverClosed = refl
number_eqb BadYears = refl
number_eqb BadStart = refl
number_eqb RatesFull = refl
number_eqb NoRate = refl

pub number_some : (r : Reason) → number_of r ≡ 0 → ⊥
number_some r = eqb-false (number_of r) 0 (number_eqb r)

-- a function that a `?` leaves gives the reason of the call that failed
pub left_by : {T : Type 0} {t : Result T Reason} {r : Reason} → IsErrAnd t (λ e. e ≡ r) → t ≡ Err r
left_by {t} p = let q = err_from_is_err_and t p in q.1 ∙ ap Err q.2

-- what tests the refusals of a list
module _ {T : Type 0} {t : Result T Reason} {n : ℕ} (e : answer_of t ≡ n) where
  -- has found one that holds, so the call is refused for it
  pub number_by : {r : Reason} → t ≡ Err r → n ≡ number_of r
  number_by q = sym e ∙ ap answer_of q

  -- or has found none
  pub zero_by : {x : T} → t ≡ Ok x → n ≡ 0
  zero_by q = sym e ∙ ap answer_of q

module _ {A T : Type 0} {t : Result T Reason} (rs : List Refusal) (done : A) (refused : ℕ → A) (e : answer_of t ≡ answer rs) where
  pub refused_for : {r : Reason} → t ≡ Err r → refused (number_of r) ≡ outcome (answer rs) done refused
  refused_for {r} q = refused_by (number_of r) rs done refused (number_by e q) (number_eqb r)

  pub done_for : {x : T} → t ≡ Ok x → done ≡ outcome (answer rs) done refused
  done_for q = done_by rs done refused (zero_by e q)
