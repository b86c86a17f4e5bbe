-- Everybody paid: an empty list of collected amounts pays every claim, and a list of just what each member owes gives the
-- same.
use Prim.Native.Nat.{ℕ}
use mathlib.Core.Path.{◌≡◌, refl, ap, ◌∙◌}
use mathlib.Core.Bool.{Bool}
use mathlib.Core.List.{List, [], ◌∷◌}
use lib.IntN.{ℤ, pos}
use lib.ListN.{length, length-map}
use Rattle.basics.specs.Refusals.{outcome}
use Rattle.netting.specs.Accounts.{member_count, claim, owed, claims, debts, balance}
use Rattle.netting.specs.Shares.{shares}
use Rattle.netting.proofs.Debts.{owed_claimed}
use Rattle.netting.proofs.Shared.{shares_whole}
use Rattle.payments.specs.Month.{amounts_paid, month_refusals, month_answer_by, payouts_of, paid_out}
use Rattle.payments.proofs.Collected.{over_none, empty_over}

-- M12, Month: the sum of what is owed is the sum of the claims, so an empty Month pays every claim
pub empty_pays : (accounts : List ℤ) → length accounts ≡ member_count → balance accounts ≡ pos 0 → payouts_of accounts [] ≡ claims accounts
empty_pays accounts size even =
    ap (λ (c : ℕ). shares c (claims accounts)) (owed_claimed accounts even)
    ∙ shares_whole (claims accounts) (length-map accounts claim ∙ size)

-- where the list has just what is owed, that is what was paid
paid_typed : (owing : List ℕ) → amounts_paid owing owing ≡ owing
paid_typed [] = refl
paid_typed (c ∷ cs) = refl

typed_payouts : (accounts : List ℤ) → payouts_of accounts (debts accounts) ≡ payouts_of accounts []
typed_payouts accounts = rw (paid_typed (debts accounts))

-- M13, Month: a list of just what each member owes and an empty one
module _ (accounts : List ℤ) (size : length accounts ≡ member_count) (since : Bool) where
  pub typed_number : (places : ℕ) → month_answer_by accounts since (debts accounts) places ≡ month_answer_by accounts since [] places
  unfolding month_refusals
  typed_number places = rw (length-map accounts owed ∙ size, over_none accounts, empty_over accounts)

  pub typed_words : (places : List ℕ) → paid_out accounts since (debts accounts) places ≡ paid_out accounts since [] places
  unfolding paid_out
  typed_words places = λ i. outcome (typed_number (length places) i) (typed_payouts accounts i) (λ n. places)
