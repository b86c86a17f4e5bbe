-- The thirty-two signed accounts (M1, Month): what they claim and owe, and a penalty that passes from one to another.
use Rattle.std.specs.Prelude.{ℕ, suc, ◌-◌, ◌^◌, ◌≤◌, ◌<◌, Bool, List, [], ◌∷◌, map, ltb, get_or, set, ℤ, pos, negsuc, ◌+ℤ◌, ◌-ℤ◌, nat_abs}
use Rattle.basics.specs.Lists.{sum}

-- M1, Month: how many members there are, each with an account
abbrev pub member_count : ℕ
member_count = 32

-- R1, Refusals: the highest number of a member is 31
abbrev pub last_member : ℕ
last_member = member_count - 1

-- R1, Refusals: there is no member with this number
abbrev pub no_member : ℕ → Bool
no_member m = ltb last_member m

-- M4, Month: an account above zero claims its size, and any other claims 0
abbrev pub claim : ℤ → ℕ
claim (pos n) = n
claim (negsuc n) = 0

-- M4, Month: an account below zero owes its size, and any other owes 0
abbrev pub owed : ℤ → ℕ
owed (pos n) = 0
owed (negsuc n) = suc n

-- M4, Month: the claims of all members, in rising number
abbrev pub claims : List ℤ → List ℕ
claims accounts = map claim accounts

-- M4, Month: what each of the members owes, in rising number
abbrev pub debts : List ℤ → List ℕ
debts accounts = map owed accounts

-- C5, Close: the accounts after cents are debited to a member
unfoldable pub debited : ℕ → ℕ → List ℤ → List ℤ
debited member cents accounts = set accounts member (get_or accounts member (pos 0) -ℤ pos cents)

-- C5, Close: the accounts after cents are credited to a member
unfoldable pub credited : ℕ → ℕ → List ℤ → List ℤ
credited member cents accounts = set accounts member (get_or accounts member (pos 0) +ℤ pos cents)

-- C5, Close: the accounts after cents pass from one member to another
unfoldable pub transferred : ℕ → ℕ → ℕ → List ℤ → List ℤ
transferred debtor creditor cents accounts = credited creditor cents (debited debtor cents accounts)

-- M9, Month; J12, Whole journals: what the accounts add up to. It is zero, since a penalty takes from one account what
-- it adds to another.
unfoldable pub balance : List ℤ → ℤ
balance [] = pos 0
balance (a ∷ accounts) = a +ℤ balance accounts

-- how far from zero an account may be, so that no sum of claims is too large
abbrev pub most_account : ℕ
most_account = 2 ^ 43

-- No account is further from zero than mostAccount. So all claims together are at most 2 ^ 48.
abbrev pub Bounded : List ℤ → Type 0
Bounded accounts = (m : ℕ) → nat_abs (get_or accounts m (pos 0)) ≤ most_account

-- what a transfer requires: the numbers of two members, and cents and accounts within their bounds
pub record Transferable (debtor creditor cents : ℕ) (accounts : List ℤ) : Type 0 where
  pub debtor_below : debtor < member_count
  pub creditor_below : creditor < member_count
  pub cents_most : cents ≤ most_account
  pub bounded : Bounded accounts

-- what the netting requires: bounded accounts, and no more collected than is claimed
pub record Shareable (accounts : List ℤ) (collected : ℕ) : Type 0 where
  pub bounded : Bounded accounts
  pub covered : collected ≤ sum (claims accounts)
