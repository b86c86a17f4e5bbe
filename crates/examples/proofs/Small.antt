-- The accounts of the examples are written out, so a test that computes shows that they can be netted.
use Prim.Native.Nat.{ℕ, zero, suc}
use native.Mathlib.Omega.{arith}
use mathlib.Core.Path.{◌≡◌, refl}
use mathlib.Core.Bool.{Bool, true, false}
use mathlib.Core.List.{List, [], ◌∷◌}
use lib.Dec.{leb}
use lib.IntN.{ℤ, nat_abs}
use borrow.Author.Tests.{leb-true}
use Rattle.basics.specs.Choice.{pick}
use Rattle.basics.specs.Lists.{sum}
use Rattle.basics.proofs.Cases.{never}
use Rattle.netting.specs.Accounts.{claims, most_account, Bounded, Shareable}

-- no account is too far from zero
abbrev pub small : List ℤ → Bool
small [] = true
small (a ∷ accounts) = pick (leb (nat_abs a) most_account) (small accounts) false

bounded : (accounts : List ℤ) → small accounts ≡ true → Bounded accounts
bounded [] e m = omega arith
bounded (a ∷ accounts) e m = by (leb (nat_abs a) most_account) refl e (bounded accounts) m
  where
    by : (t : Bool) → leb (nat_abs a) most_account ≡ t → pick t (small accounts) false ≡ true → (small accounts ≡ true → Bounded accounts) → Bounded (a ∷ accounts)
    by true q r f zero = leb-true (nat_abs a) most_account q
    by true q r f (suc m) = f r m
    by false q r f m = absurd (never r)

-- the accounts can be netted with c cents collected
pub shareable : (accounts : List ℤ) (c : ℕ) → small accounts ≡ true → leb c (sum (claims accounts)) ≡ true → Shareable accounts c
shareable accounts c e f = record { bounded = bounded accounts e; covered = leb-true c (sum (claims accounts)) f }
