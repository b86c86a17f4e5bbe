-- Laws on claims and debts. Accounts whose balance is zero owe together as much as they claim together, so the claims
-- cover what is collected of the debts.
use Prim.Native.Nat.{ℕ, zero, suc, ◌+◌, ◌*◌, ◌^◌, ◌≤◌, ◌<◌}
use native.Mathlib.Nat.{zero-add}
use native.Mathlib.Omega.{arith}
use mathlib.Core.List.{List, [], ◌∷◌, map}
use mathlib.Core.Path.{◌≡◌, refl, sym, ap, ◌∙◌}
use lib.IntN.{ℤ, pos, negsuc, ◌+ℤ◌, nat_abs, +ℤ_assoc, +ℤ_comm, +ℤ_invl, +ℤ_idl}
use lib.ListN.{length, get_or, length-map}
use lib.Seq.{ext_get_or}
use Rattle.basics.proofs.Sums.{sum_most}
use Rattle.basics.specs.Lists.{total, sum}
use Rattle.netting.specs.Accounts.{member_count, claim, owed, claims, debts, balance, most_account, Bounded}
use Rattle.netting.proofs.Signed.{claim_most}

-- the balance plus the sum owed is the sum claimed
owed_back : (a : List ℤ) → balance a +ℤ pos (sum (debts a)) ≡ pos (sum (claims a))
unfolding balance total
owed_back [] = refl
owed_back (pos n ∷ a) =
    ap (λ (x : ℕ). (pos n +ℤ balance a) +ℤ pos x) (zero-add (sum (debts a)))
    ∙ +ℤ_assoc (pos n) (balance a) (pos (sum (debts a)))
    ∙ ap (λ (z : ℤ). pos n +ℤ z) (owed_back a)
owed_back (negsuc n ∷ a) =
    ap (λ (z : ℤ). z +ℤ pos (suc n + sum (debts a))) (+ℤ_comm (negsuc n) (balance a))
    ∙ +ℤ_assoc (balance a) (negsuc n) (pos (suc n + sum (debts a)))
    ∙ ap (λ (z : ℤ). balance a +ℤ z)
    (sym (+ℤ_assoc (negsuc n) (pos (suc n)) (pos (sum (debts a))))
    ∙ ap (λ (z : ℤ). z +ℤ pos (sum (debts a))) (+ℤ_invl (pos (suc n)))
    ∙ +ℤ_idl (pos (sum (debts a))))
    ∙ owed_back a
    ∙ ap pos (sym (zero-add (sum (claims a))))

-- where the balance is zero, the sum owed is the sum claimed
pub owed_claimed : (a : List ℤ) → balance a ≡ pos 0 → sum (debts a) ≡ sum (claims a)
owed_claimed a h =
    ap nat_abs
    (sym (+ℤ_idl (pos (sum (debts a)))) ∙ ap (λ (z : ℤ). z +ℤ pos (sum (debts a))) (sym h) ∙ owed_back a)

within_owed : (a : List ℤ) (cs : List ℕ) → ((m : ℕ) → m < length cs → get_or cs m 0 ≤ owed (get_or a m (pos 0))) →
    sum cs ≤ sum (debts a)
unfolding total
within_owed a [] h = omega arith
within_owed [] (c ∷ cs) h =
    let e = h 0 (omega arith) in let f = within_owed [] cs (λ m l. h (suc m) (omega arith)) in omega arith
within_owed (z ∷ a) (c ∷ cs) h =
    let e = h 0 (omega arith) in let f = within_owed a cs (λ m l. h (suc m) (omega arith)) in omega arith

-- Where the balance is zero and each amount is at most what its member owes, the amounts add up to no more than is
-- claimed.
pub collected_covered : (a : List ℤ) (cs : List ℕ) → balance a ≡ pos 0 →
    ((m : ℕ) → m < length cs → get_or cs m 0 ≤ owed (get_or a m (pos 0))) → sum cs ≤ sum (claims a)
collected_covered a cs z h = let e = owed_claimed a z in let f = within_owed a cs h in omega arith

-- f gives 0 for an account of zero; the number of a member is then that of its account
pub of_account : (f : ℤ → ℕ) → f (pos 0) ≡ 0 → (a : List ℤ) (m : ℕ) → get_or (map f a) m 0 ≡ f (get_or a m (pos 0))
of_account f z [] m = sym z
of_account f z (x ∷ a) zero = refl
of_account f z (x ∷ a) (suc m) = of_account f z a m

-- the claims of 32 bounded accounts add up to at most 2 ^ 48
pub claims_small : (a : List ℤ) → length a ≡ member_count → Bounded a → sum (claims a) ≤ 2 ^ 48
claims_small a members small =
    let s = sum_most (claims a) most_account
    (λ k l. let e = of_account claim refl a k in let f = claim_most (get_or a k (pos 0)) in let g = small k in omega arith) in
    let e = ap (λ (n : ℕ). n * most_account) (length-map a claim ∙ members) in
    omega arith

-- a list that has the number of each account is the list of these numbers
pub of_accounts : (f : ℤ → ℕ) → f (pos 0) ≡ 0 → (a : List ℤ) (xs : List ℕ) → length a ≡ member_count → length xs ≡ member_count →
    ((m : ℕ) → m < member_count → get_or xs m 0 ≡ f (get_or a m (pos 0))) → xs ≡ map f a
of_accounts f z a xs la lx h =
    ext_get_or 0 xs (map f a) (lx ∙ sym la ∙ sym (length-map a f)) (λ m l. h m (omega arith) ∙ sym (of_account f z a m))
