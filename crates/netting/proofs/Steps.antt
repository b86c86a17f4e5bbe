-- Laws on the steps of a month. The portions that the code computes are those of the definition, nothing in them
-- overflows, and a member's share of them is its share by the rules.
use Rattle.std.proofs.Common.{◌≡◌, ℕ, ℤ, ◌*◌, ◌^◌, ◌≤◌, ◌<◌, List, map, length, get_or, refl, sym, ap, ◌∙◌, arith}
use Rattle.std.specs.List.{sum_by}
use Rattle.std.proofs.Math.ListN.{get_or-map}
use Rattle.std.proofs.lemmas.List.{length-map}
use Rattle.std.proofs.lemmas.List.Sums.{sum-map}
use lib.Dec.{ltb}
use Rattle.basics.proofs.Cases.{pick_case}
use Rattle.basics.proofs.Sums.{one_most}
use Rattle.basics.proofs.Tables.{is_table}
use Rattle.basics.specs.Lists.{sum, table}
use Rattle.amounts.specs.Quotients.{divided}
use Rattle.amounts.specs.declared.Divided.{Divided}
use Rattle.amounts.proofs.Products.{divided_none, part_most}
use Rattle.netting.specs.Accounts.{member_count, claims, Shareable}
use Rattle.netting.specs.Portions.{Dividable, parts, nothing, floor_of, remainder_of, portions, cent_of, share_of}
use Rattle.netting.specs.Shares.{rank, floor_share, remainder, extra_cent, share}
use Rattle.netting.specs.declared.Portions.{Portions}
use Rattle.netting.proofs.Debts.{claims_small}
use Rattle.netting.proofs.Library.{sum_is}
use Rattle.netting.proofs.Ranks.{rank_same}

-- a member gets at most one of the cents left
pub cent_most : (p : Portions) (m : ℕ) → cent_of p m ≤ 1
unfolding cent_of
cent_most p m =
    pick_case (λ (n : ℕ). n ≤ 1) (ltb (rank (remainder_of p.parts) m) p.left) 1 0
    (λ e. omega arith) (λ e. omega arith)

-- the division for a member gives its floor and its remainder
pub portion_is : (c : ℕ) (gs : List ℕ) (m whole : ℕ) (p : Divided) →
    whole ≡ sum gs → p ≡ divided (c * get_or gs m 0) whole →
    (p.quotient ≡ floor_share c gs m) × (p.remainder ≡ remainder c gs m)
unfolding floor_share remainder
portion_is c gs m whole p w e = rw (e, w) (refl, refl)

-- The part at any place has its floor and its remainder. At a place past the claims all of them are 0.
part_at : (c : ℕ) (gs : List ℕ) (m : ℕ) → (floor_of (parts c gs) m ≡ floor_share c gs m) × (remainder_of (parts c gs) m ≡ remainder c gs m)
part_at c gs m =
    portion_is c gs m (sum gs) (get_or (parts c gs) m nothing) refl
    (ap (get_or (parts c gs) m) (divided_none c (sum gs)) ∙ get_or-map (λ g. divided (c * g) (sum gs)) gs m 0)

module _ (c : ℕ) (gs : List ℕ) (members : length gs ≡ member_count) where
  -- the part of a member has its floor and its remainder
  pub part_is : (m : ℕ) → m < member_count → (floor_of (parts c gs) m ≡ floor_share c gs m) × (remainder_of (parts c gs) m ≡ remainder c gs m)
  part_is m l = part_at c gs m

  -- the quotients of all members add up to their floors
  pub quotients_are : sum_by (λ (d : Divided). d.quotient) (parts c gs) ≡ sum (table member_count (floor_share c gs))
  quotients_are =
      sym (sum-map (λ (d : Divided). d.quotient) (parts c gs))
      ∙ sym (sum_is (map (λ (d : Divided). d.quotient) (parts c gs)))
      ∙ ap sum (is_table member_count (floor_share c gs) (map (λ (d : Divided). d.quotient) (parts c gs)) 0
      (length-map (parts c gs) (λ (d : Divided). d.quotient) ∙ length-map gs (λ g. divided (c * g) (sum gs)) ∙ members)
      (λ m l. get_or-map (λ (d : Divided). d.quotient) (parts c gs) m nothing ∙ (part_is m l).0))

-- where the requirement of the netting holds, that of the division does
pub dividable : (a : List ℤ) (c : ℕ) → length a ≡ member_count → Shareable a c → Dividable c (claims a)
dividable a c members s = record { covered = s.covered; small = claims_small a members s.bounded }

-- every floor is at most 2 ^ 48
pub floor_small : (c : ℕ) (gs : List ℕ) (p : Portions) → length gs ≡ member_count → Dividable c gs → p ≡ portions c gs →
    (m : ℕ) → floor_of p.parts m ≤ 2 ^ 48
unfolding portions floor_share
floor_small c gs p members d e m =
    rw e (omega (arith, (part_at c gs m).0, part_most c (get_or gs m 0) (sum gs) d.covered, one_most gs m, d.small))

-- a member's share of the portions is its share by the rules
pub share_made : (c : ℕ) (gs : List ℕ) (m : ℕ) → m < member_count → share_of (get_or gs m 0) (portions c gs) m ≡ share c gs m
unfolding share_of share portions cent_of extra_cent
share_made c gs m l =
    rw ((part_at c gs m).0, rank_same (remainder_of (parts c gs)) (remainder c gs) (λ k h. (part_at c gs k).1) m l)
