-- `months` meets its contract.
use mathlib.Core.List.{List, ◌∷◌}
use Prim.Native.Nat.{ℕ}
use lib.ListN.{get_or, replicate}
use mathlib.Core.Path.{◌≡◌, refl, ap, ◌∙◌}
use native.Mathlib.Omega.{arith}
use Rattle.examples.proofs.Small.{shareable}
use Rattle.netting.specs.Shares.{floor_share, remainder, cents_left, comes_before, rank, extra_cent, share, shares}
use Rattle.basics.specs.Lists.{total, table_from, count_below}
use Rattle.examples.proofs.Same.{none_differs}
use Rattle.examples.proofs.months.Goals as goal

-- the share of a member
abbrev share_at : ℕ → List ℕ → ℕ
share_at m l = get_or l m 0

-- claims of 200 and 100
abbrev claims_of_two : List ℕ
claims_of_two = 200 ∷ 100 ∷ replicate 30 0

-- three claims of 100
abbrev claims_of_three : List ℕ
claims_of_three = 100 ∷ 100 ∷ 100 ∷ replicate 29 0

of_two : (share_at 0 (shares 100 claims_of_two) ≡ 67) × (share_at 1 (shares 100 claims_of_two) ≡ 33)
unfolding total table_from count_below floor_share remainder cents_left comes_before rank extra_cent share shares
of_two = (refl, refl)

of_three : (share_at 0 (shares 100 claims_of_three) ≡ 34) × (share_at 1 (shares 100 claims_of_three) ≡ 33)
    × (share_at 2 (shares 100 claims_of_three) ≡ 33)
unfolding total table_from count_below floor_share remainder cents_left comes_before rank extra_cent share shares
of_three = (refl, refl, refl)

pub shares_of-of_two-requires : goal.shares_of-of_two-requires
unfolding total
shares_of-of_two-requires c = shareable _ 100 refl refl

pub shares_of-of_three-requires : goal.shares_of-of_three-requires
unfolding total
shares_of-of_three-requires c = shareable _ 100 refl refl

pub returns : goal.returns
returns c = let two = c.shares_of-of_two.ensures in let three = c.shares_of-of_three.ensures in
    omega (
      arith,
      none_differs (ap (share_at 0) two ∙ of_two.0) c.compared.ensures.value,
      none_differs (ap (share_at 1) two ∙ of_two.1) c.compared-2.ensures.value,
      none_differs (ap (share_at 0) three ∙ of_three.0) c.compared-3.ensures.value,
      none_differs (ap (share_at 1) three ∙ of_three.1) c.compared-4.ensures.value,
      none_differs (ap (share_at 2) three ∙ of_three.2) c.compared-5.ensures.value,
    )
