-- Laws on the penalties of a Close on the accounts. They can be transferred, they keep the number of the accounts and
-- their balance, and they move no account by more than the largest penalty for each obligation.
use Prim.Native.Nat.{ℕ, zero, suc, ◌+◌, ◌*◌, ◌≤◌}
use native.Mathlib.Omega.{arith}
use mathlib.Core.Path.{◌≡◌, refl, ◌∙◌}
use mathlib.Core.Bool.{true, false}
use mathlib.Core.List.{List}
use lib.IntN.{ℤ, pos, nat_abs}
use lib.ListN.{length, get_or}
use Rattle.basics.proofs.Cases.{pick_case}
use Rattle.amounts.specs.Amounts.{most_penalty}
use Rattle.amounts.proofs.Bounds.{penalty_most}
use Rattle.netting.specs.Accounts.{transferred, balance, Bounded, Transferable}
use Rattle.netting.proofs.Transfers.{transferred_length, transferred_balance, transferred_abs}
use Rattle.ledger.specs.declared.Obligation.{Obligation}
use Rattle.ledger.specs.declared.Ledger.{Ledger}
use Rattle.ledger.specs.Obligations.{no_obligation, is_due, sides_of, Sound}
use Rattle.ledger.specs.Ledger.{obligation_at, ValidLedger}
use Rattle.ledger.proofs.Keeping.{outstanding_most, sides_sound}
use Rattle.closing.specs.declared.DayEnd.{DayEnd}
use Rattle.closing.specs.Stages.{penalty_on}
use Rattle.closing.specs.Close.{fined, accounts_up_to}
use Rattle.closing.specs.Asked.{ValidEnd, Near}

pub fine_most : (d : DayEnd) (o : Obligation) → ValidEnd d → Sound o → penalty_on d o ≤ most_penalty
unfolding penalty_on
fine_most d o v s = penalty_most o.parts.outstanding d.price d.rate (outstanding_most o s) v.price_most v.rate_most

pub fine_transferable : (d : DayEnd) (o : Obligation) (accounts : List ℤ) → ValidEnd d → Sound o → Bounded accounts →
    Transferable (sides_of o).debtor (sides_of o).creditor (penalty_on d o) accounts
fine_transferable d o accounts v s b = record {
  debtor_below = (sides_sound o s).debtor_below;
  creditor_below = (sides_sound o s).creditor_below;
  cents_most = omega (arith, fine_most d o v s);
  bounded = b;
}

-- what a penalty leaves as it was, and how far it moves an account at most
pub record Charged (accounts after : List ℤ) (most : ℕ) : Type 0 where
  pub size : length after ≡ length accounts
  pub even : balance after ≡ balance accounts
  pub near : (m : ℕ) → nat_abs (get_or after m (pos 0)) ≤ nat_abs (get_or accounts m (pos 0)) + most

pub fined_charged : (d : DayEnd) (o : Obligation) (accounts : List ℤ) → ValidEnd d → Sound o → length accounts ≡ 32 → Charged accounts (fined d o accounts) most_penalty
unfolding fined
fined_charged d o accounts v s size =
    let most = fine_most d o v s in
    let debtor : ℕ = (sides_of o).debtor in
    let creditor : ℕ = (sides_of o).creditor in
    let cents : ℕ = penalty_on d o in
    let two = sides_sound o s in
    pick_case (λ (a : List ℤ). Charged accounts a most_penalty) (is_due d.today o) _ _
    (λ e. record {
      size = transferred_length debtor creditor cents accounts;
      even = transferred_balance debtor creditor cents accounts (omega (arith, two.debtor_below)) (omega (arith, two.creditor_below));
      near = λ m. omega (arith, transferred_abs debtor creditor cents accounts (omega (arith, two.debtor_below)) (omega (arith, two.creditor_below)) m);
    })
    (λ e. record { size = refl; even = refl; near = λ m. omega arith })

-- by whether the obligation is due
pub fined_due : (d : DayEnd) (o : Obligation) (accounts : List ℤ) → is_due d.today o ≡ true →
    fined d o accounts ≡ transferred (sides_of o).debtor (sides_of o).creditor (penalty_on d o) accounts
unfolding fined
fined_due d o accounts e = rw e

pub fined_idle : (d : DayEnd) (o : Obligation) (accounts : List ℤ) → is_due d.today o ≡ false → fined d o accounts ≡ accounts
unfolding fined
fined_idle d o accounts e = rw e

-- The accounts after the penalties of the first n obligations. Each transfer is within its bound.
module _ (d : DayEnd) (l : Ledger) (w : ValidEnd d) (v : ValidLedger l) where
  abbrev up_to : ℕ → List ℤ
  up_to n = accounts_up_to d l.obligations l.accounts n

  pub charged_up_to : (n : ℕ) → n ≤ l.count → Charged l.accounts (up_to n) (most_penalty * n)
  unfolding accounts_up_to
  charged_up_to zero h = record { size = refl; even = refl; near = λ m. omega arith }
  charged_up_to (suc n) h =
      let a = charged_up_to n (omega arith) in
      let b = fined_charged d (obligation_at l n) (up_to n) w (v.sound n h) (a.size ∙ v.accounts.size) in
      record {
        size = b.size ∙ a.size;
        even = b.even ∙ a.even;
        near = λ m. omega (arith, a.near m, b.near m);
      }

  pub bounded_up_to : (n : ℕ) → n ≤ l.count → Near l.accounts → Bounded (up_to n)
  bounded_up_to n h g m = omega (arith, (charged_up_to n h).near m, g m, v.few)

-- there are as many accounts as before
pub accounts_length : (d : DayEnd) (os : List Obligation) (accounts : List ℤ) (n : ℕ) → length (accounts_up_to d os accounts n) ≡ length accounts
unfolding accounts_up_to fined
accounts_length d os accounts zero = refl
accounts_length d os accounts (suc n) =
    let o : Obligation = get_or os n no_obligation in
    let before : List ℤ = accounts_up_to d os accounts n in
    pick_case (λ (a : List ℤ). length a ≡ length before) (is_due d.today o) _ _
    (λ e. transferred_length (sides_of o).debtor (sides_of o).creditor (penalty_on d o) before)
    (λ e. refl)
    ∙ accounts_length d os accounts n
