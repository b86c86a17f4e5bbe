-- What is collected: the amounts of the list, or what each member owes if the list is empty. No amount is above what
-- its member owes, so the claims cover all of it.
use Prim.Native.Nat.{ℕ, zero, suc, ◌^◌, ◌≤◌, ◌<◌}
use native.Mathlib.Omega.{arith}
use mathlib.Core.Path.{◌≡◌, refl, sym, ap, ◌∙◌}
use mathlib.Core.Bool.{Bool, true, false, ◌||◌}
use mathlib.Core.Logic.{◌⊎◌, inl, inr, ⊎_elim}
use mathlib.Core.List.{List, [], ◌∷◌}
use lib.Dec.{ltb, eqb}
use lib.IntN.{ℤ, pos}
use lib.ListN.{length, get_or, length-map}
use borrow.Author.Tests.{ltb-false, le-ltb, eqb-true, not-false}
use Rattle.std.specs.List.{list_any, zip}
use Rattle.basics.specs.Lists.{sum}
use Rattle.basics.proofs.Cases.{or_false}
use Rattle.netting.specs.Accounts.{owed, claims, debts, balance, Bounded, Shareable}
use Rattle.netting.proofs.Debts.{collected_covered, claims_small}
use Rattle.payments.specs.Month.{bad_amounts, bad_lists, over_collected, amounts_paid}

-- ---- the test member by member, in the library's words
pub over_any : (xs : List ℤ) (cs : List ℕ) → over_collected xs cs ≡ list_any (λ p. ltb (owed p.0) p.1) (zip xs cs)
unfolding over_collected
over_any [] cs = refl
over_any (x ∷ xs) [] = refl
over_any (x ∷ xs) (c ∷ cs) = ap (λ t. ltb (owed x) c || t) (over_any xs cs)

-- ---- what passes the test
within_owed : (xs : List ℤ) (cs : List ℕ) → over_collected xs cs ≡ false → length cs ≤ length xs → (m : ℕ) → m < length cs → get_or cs m 0 ≤ owed (get_or xs m (pos 0))
unfolding over_collected
within_owed xs [] e l m h = absurd (omega arith)
within_owed [] (c ∷ cs) e l m h = absurd (omega arith)
within_owed (a ∷ xs) (c ∷ cs) e l zero h = ltb-false (owed a) c (or_false {a = ltb (owed a) c} e).0
within_owed (a ∷ xs) (c ∷ cs) e l (suc m) h = within_owed xs cs (or_false {a = ltb (owed a) c} e).1 (omega arith) m (omega arith)

-- ---- the lengths of the lists
-- a list of amounts that is not refused is empty, or it has 32 amounts
pub none_or_all : (c : ℕ) → bad_amounts c ≡ false → (c ≡ 0) ⊎ (c ≡ 32)
none_or_all c e = by (eqb c 0) refl
  where
    by : (t : Bool) → eqb c 0 ≡ t → (c ≡ 0) ⊎ (c ≡ 32)
    by true z = inl (eqb-true c 0 z)
    by false z = inr (eqb-true c 32 (not-false (eqb c 32) (rw z at e)))

-- where the lists are not refused, the amounts are none or all, and there are 32 places
pub good_lists : (c p : ℕ) → bad_lists c p ≡ false → (bad_amounts c ≡ false) × (p ≡ 32)
good_lists c p e =
    let b = or_false {a = bad_amounts c} e in
    (b.0, eqb-true p 32 (not-false (eqb p 32) b.1))

-- ---- what the members paid
pub paid_none : (owing cs : List ℕ) → length cs ≡ 0 → amounts_paid owing cs ≡ owing
paid_none owing [] h = refl
paid_none owing (c ∷ cs) h = absurd (omega arith)

pub paid_some : (owing cs : List ℕ) → (length cs ≡ 0 → ⊥) → amounts_paid owing cs ≡ cs
paid_some owing [] h = absurd (h refl)
paid_some owing (c ∷ cs) h = refl

-- just what is owed is not above what is owed
pub over_none : (xs : List ℤ) → over_collected xs (debts xs) ≡ false
unfolding over_collected
over_none [] = refl
over_none (a ∷ xs) = rw (le-ltb (owed a) (owed a) (omega arith)) (over_none xs)

pub empty_over : (xs : List ℤ) → over_collected xs [] ≡ false
unfolding over_collected
empty_over [] = refl
empty_over (a ∷ xs) = refl

-- what the members paid is above what they owe exactly where an amount of the list is
pub over_paid : (xs : List ℤ) (cs : List ℕ) → over_collected xs (amounts_paid (debts xs) cs) ≡ over_collected xs cs
over_paid xs [] = over_none xs ∙ sym (empty_over xs)
over_paid xs (c ∷ cs) = refl

module _ (xs : List ℤ) (cs : List ℕ) (sa : length xs ≡ 32) (good : bad_amounts (length cs) ≡ false) where
  abbrev paid : List ℕ
  paid = amounts_paid (debts xs) cs

  pub paid_length : length paid ≡ 32
  paid_length =
      ⊎_elim
      (λ (z : length cs ≡ 0). ap length (paid_none (debts xs) cs z) ∙ length-map xs owed ∙ sa)
      (λ (z : length cs ≡ 32). ap length (paid_some (debts xs) cs (λ y. omega arith)) ∙ z)
      (none_or_all (length cs) good)

  module _ (even : balance xs ≡ pos 0) (bounded : Bounded xs) (e : over_collected xs cs ≡ false) where
    covered : sum paid ≤ sum (claims xs)
    covered = collected_covered xs paid even (within_owed xs paid (over_paid xs cs ∙ e) (omega (arith, paid_length)))

    pub collected_fits : sum paid < 2 ^ 64
    collected_fits = omega (arith, covered, claims_small xs sa bounded)

    pub collected_shareable : Shareable xs (sum paid)
    collected_shareable = record { bounded = bounded; covered = covered }
