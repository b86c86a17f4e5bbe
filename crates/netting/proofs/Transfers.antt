-- Laws on a transfer between two accounts: what it does to each account, and that the balance stays the same.
use Prim.Native.Nat.{ℕ, zero, suc, ◌+◌, ◌≤◌, ◌<◌}
use native.Mathlib.Omega.{arith}
use mathlib.Core.Bool.{Bool, true, false}
use mathlib.Core.List.{List, [], ◌∷◌}
use mathlib.Core.Path.{◌≡◌, refl, sym, ap, ◌∙◌}
use lib.Dec.{eqb}
use lib.IntN.{ℤ, pos, neg_ℤ, ◌+ℤ◌, ◌-ℤ◌, nat_abs, +ℤ_assoc, +ℤ_comm, +ℤ_idl, +ℤ_idr, -ℤ-+ℤ_cancel}
use lib.ListN.{length, get_or, set, length-set}
use lib.Seq.{get_or-set_same, get_or-set_other, set-set, set-get_or}
use borrow.Author.Tests.{eqb-true, eqb-false}
use Rattle.basics.specs.Choice.{pick}
use Rattle.netting.specs.Accounts.{debited, credited, transferred, balance}
use Rattle.netting.proofs.Signed.{sum_abs, negative_abs}

-- the account of member m
abbrev pub account_of : List ℤ → ℕ → ℤ
account_of accounts m = get_or accounts m (pos 0)

-- the accounts with x added to that of member m; x is negative for a debit and positive for a credit
abbrev moved : ℕ → ℤ → List ℤ → List ℤ
moved m x accounts = set accounts m (account_of accounts m +ℤ x)

moved_length : (m : ℕ) (x : ℤ) (a : List ℤ) → length (moved m x a) ≡ length a
moved_length m x a = length-set a m (account_of a m +ℤ x)

moved_own : (m : ℕ) (x : ℤ) (a : List ℤ) → m < length a → account_of (moved m x a) m ≡ account_of a m +ℤ x
moved_own m x a l = get_or-set_same a m (account_of a m +ℤ x) (pos 0) l

moved_other : (m : ℕ) (x : ℤ) (a : List ℤ) (k : ℕ) → (k ≡ m → ⊥) → account_of (moved m x a) k ≡ account_of a k
moved_other m x a k d = get_or-set_other a m k (account_of a m +ℤ x) (pos 0) d

-- no account moves away from zero by more than x
moved_abs : (m : ℕ) (x : ℤ) (a : List ℤ) → m < length a → (k : ℕ) →
    nat_abs (account_of (moved m x a) k) ≤ nat_abs (account_of a k) + nat_abs x
moved_abs m x a l k = by (eqb k m) refl
  where
    by : (t : Bool) → eqb k m ≡ t → nat_abs (account_of (moved m x a) k) ≤ nat_abs (account_of a k) + nat_abs x
    by true e = rw (eqb-true k m e, moved_own m x a l) (sum_abs (account_of a m) x)
    by false e = rw (moved_other m x a k (eqb-false k m e)) (omega arith)

-- the balance changes by x
moved_balance : (m : ℕ) (x : ℤ) (a : List ℤ) → m < length a → balance (moved m x a) ≡ balance a +ℤ x
unfolding balance
moved_balance m x [] h = absurd (omega arith)
moved_balance zero x (z ∷ a) h =
    +ℤ_assoc z x (balance a) ∙ ap (λ (y : ℤ). z +ℤ y) (+ℤ_comm x (balance a)) ∙ sym (+ℤ_assoc z (balance a) x)
moved_balance (suc m) x (z ∷ a) h =
    ap (λ (y : ℤ). z +ℤ y) (moved_balance m x a (omega arith)) ∙ sym (+ℤ_assoc z (balance a) x)

-- n cents pass from the debtor d to the creditor c
module _ (d c n : ℕ) (accounts : List ℤ) where
  abbrev less : List ℤ
  less = moved d (neg_ℤ (pos n)) accounts

  abbrev after : List ℤ
  after = transferred d c n accounts

  -- there are as many accounts as before
  pub transferred_length : length after ≡ length accounts
  unfolding transferred credited debited
  transferred_length = moved_length c (pos n) less ∙ moved_length d (neg_ℤ (pos n)) accounts

  -- a member that is neither the debtor nor the creditor keeps its account
  pub transferred_other : (m : ℕ) → (m ≡ d → ⊥) → (m ≡ c → ⊥) → account_of after m ≡ account_of accounts m
  unfolding transferred credited debited
  transferred_other m x y = moved_other c (pos n) less m y ∙ moved_other d (neg_ℤ (pos n)) accounts m x

  -- the creditor has n more
  pub transferred_creditor : c < length accounts → (d ≡ c → ⊥) → account_of after c ≡ account_of accounts c +ℤ pos n
  unfolding transferred credited debited
  transferred_creditor there apart =
      moved_own c (pos n) less (omega (arith, moved_length d (neg_ℤ (pos n)) accounts))
      ∙ ap (λ (z : ℤ). z +ℤ pos n) (moved_other d (neg_ℤ (pos n)) accounts c (λ e. apart (sym e)))

  module _ (there : d < length accounts) where
    -- the debtor has n less
    pub transferred_debtor : (d ≡ c → ⊥) → account_of after d ≡ account_of accounts d -ℤ pos n
    unfolding transferred credited debited
    transferred_debtor apart = moved_other c (pos n) less d apart ∙ moved_own d (neg_ℤ (pos n)) accounts there

    -- a transfer from a member to itself changes nothing
    pub transferred_same : d ≡ c → after ≡ accounts
    unfolding transferred credited debited
    transferred_same e =
        rw (← e, moved_own d (neg_ℤ (pos n)) accounts there, set-set)
        (rw (-ℤ-+ℤ_cancel (account_of accounts d) (pos n), set-get_or))

    -- the balance stays the same
    pub transferred_balance : c < length accounts → balance after ≡ balance accounts
    unfolding transferred credited debited
    transferred_balance l =
        moved_balance c (pos n) less (omega (arith, moved_length d (neg_ℤ (pos n)) accounts))
        ∙ ap (λ (z : ℤ). z +ℤ pos n) (moved_balance d (neg_ℤ (pos n)) accounts there)
        ∙ -ℤ-+ℤ_cancel (balance accounts) (pos n)

    less_abs : (m : ℕ) → nat_abs (account_of less m) ≤ nat_abs (account_of accounts m) + n
    less_abs m = omega (arith, moved_abs d (neg_ℤ (pos n)) accounts there m, negative_abs n)

    apart_abs : c < length accounts → (d ≡ c → ⊥) → (m : ℕ) (t : Bool) → eqb m c ≡ t →
        nat_abs (account_of after m) ≤ nat_abs (account_of accounts m) + n
    unfolding transferred credited debited
    apart_abs l apart m true e =
        rw (eqb-true m c e, transferred_creditor l apart) (sum_abs (account_of accounts c) (pos n))
    apart_abs l apart m false e = rw (moved_other c (pos n) less m (eqb-false m c e)) (less_abs m)

    -- no account moves away from zero by more than n
    pub transferred_abs : c < length accounts → (m : ℕ) → nat_abs (account_of after m) ≤ nat_abs (account_of accounts m) + n
    transferred_abs l m = by (eqb d c) refl
      where
        by : (t : Bool) → eqb d c ≡ t → nat_abs (account_of after m) ≤ nat_abs (account_of accounts m) + n
        by true e = rw (transferred_same (eqb-true d c e)) (omega arith)
        by false e = apart_abs l (eqb-false d c e) m (eqb m c) refl

-- how a transfer changes each account: it adds the cents to the buyer's and takes them from the seller's
pub transferred_credit : (seller buyer cents : ℕ) (accounts : List ℤ) → seller < length accounts → buyer < length accounts → (seller ≡ buyer → ⊥) → (m : ℕ) →
    get_or (transferred seller buyer cents accounts) m (pos 0) ≡ get_or accounts m (pos 0) +ℤ (pick (eqb buyer m) (pos cents) (pos 0) -ℤ pick (eqb seller m) (pos cents) (pos 0))
transferred_credit seller buyer cents accounts s b apart m = by (eqb seller m) (eqb buyer m) refl refl
  where
    by : (t u : Bool) → eqb seller m ≡ t → eqb buyer m ≡ u →
        get_or (transferred seller buyer cents accounts) m (pos 0) ≡ get_or accounts m (pos 0) +ℤ (pick u (pos cents) (pos 0) -ℤ pick t (pos cents) (pos 0))
    by true true e f = absurd (apart (eqb-true seller m e ∙ sym (eqb-true buyer m f)))
    by true false e f = rw (← eqb-true seller m e, +ℤ_idl (neg_ℤ (pos cents))) (transferred_debtor seller buyer cents accounts s apart)
    by false true e f = rw (← eqb-true buyer m f, +ℤ_idr (pos cents)) (transferred_creditor seller buyer cents accounts b apart)
    by false false e f =
        transferred_other seller buyer cents accounts m (λ x. eqb-false seller m e (sym x)) (λ x. eqb-false buyer m f (sym x))
        ∙ sym (+ℤ_idr (get_or accounts m (pos 0)))
