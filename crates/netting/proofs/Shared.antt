-- Laws on the shares of a month. They add up to what was collected. Each is the claim's share rounded down or one cent
-- more, and at most the claim. The cents go by the order of the remainders. If all that is claimed was collected, each
-- member gets its claim. A "floor" is a share rounded down.
use Prim.Native.Nat.{ℕ, zero, suc, ◌+◌, ◌*◌, ◌≤◌, ◌<◌}
use native.Mathlib.Nat.{add-mul, mul_comm, mul-zero, mul-le-mul_right, le_of_mul-le-mul_right, lt_of_mul-lt-mul_right}
use native.Mathlib.Nat.{mod-lt, div-add-mod', mul-div_right, zero-div, zero-mod}
use native.Mathlib.Omega.{arith}
use mathlib.Core.Bool.{Bool, true}
use mathlib.Core.List.{List}
use mathlib.Core.Logic.{◌⊎◌, inl, inr, ⊎_elim}
use mathlib.Core.Path.{◌≡◌, refl, sym, ap, ◌∙◌}
use lib.Dec.{ltb}
use lib.ListN.{length, get_or, replicate}
use lib.Seq.{ext_get_or}
use borrow.Author.Tests.{ltb-true, ltb-false, lt-ltb}
use Rattle.basics.specs.Lists.{total, sum, table, table_from, count_below}
use Rattle.basics.proofs.Cases.{pick_case, below_or_not}
use Rattle.basics.proofs.Sums.{one_most}
use Rattle.basics.proofs.Tables.{table_length, table_at}
use Rattle.basics.proofs.TableSums.{sum_both}
use Rattle.netting.specs.Shares.{floor_share, remainder, cents_left, comes_before, rank, extra_cent, share, shares}
use Rattle.basics.proofs.Counts.{count_within, count_most, sum_same, sum_ones, sum_counted, sum_parts}
use Rattle.basics.proofs.Counts.{sum_listed}
use Rattle.netting.specs.Accounts.{member_count}
use Rattle.netting.proofs.Ranks.{comes_first, ranks_below, rank_first}

-- the list of shares has at each member's place what that member gets
pub share_at : (c : ℕ) (gs : List ℕ) (m : ℕ) → m < member_count → get_or (shares c gs) m 0 ≡ share c gs m
unfolding shares
share_at c gs m l = table_at member_count (share c gs) m 0 l

share_none : (c : ℕ) (gs : List ℕ) (m : ℕ) → get_or gs m 0 ≡ 0 → share c gs m ≡ 0
unfolding share
share_none c gs m h = rw h

share_claimed : (c : ℕ) (gs : List ℕ) (m : ℕ) → 0 < get_or gs m 0 → share c gs m ≡ floor_share c gs m + extra_cent c gs m
unfolding share
share_claimed c gs m h = rw (lt-ltb 0 (get_or gs m 0) h)

-- a member without a claim gets nothing
pub shares_no_claim : (c : ℕ) (gs : List ℕ) (m : ℕ) → m < member_count → get_or gs m 0 ≡ 0 → get_or (shares c gs) m 0 ≡ 0
shares_no_claim c gs m l h = share_at c gs m l ∙ share_none c gs m h

unclaimed : (gs : List ℕ) → sum gs ≤ 0 → (m : ℕ) → get_or gs m 0 ≡ 0
unclaimed gs h m = let e = one_most gs m in omega arith

zeros : (n : ℕ) (f : ℕ → ℕ) (k : ℕ) → ((i : ℕ) → f i ≡ 0) → table_from k n f ≡ replicate n 0
unfolding table_from
zeros zero f k h = refl
zeros (suc n) f k h = rw (h k, zeros n f (suc k) h)

-- where nothing is claimed, all get 0
pub shares_none : (c : ℕ) (gs : List ℕ) → sum gs ≡ 0 → shares c gs ≡ replicate member_count 0
unfolding shares
shares_none c gs h = zeros member_count (share c gs) 0 (λ m. share_none c gs m (unclaimed gs (omega arith) m))

-- a claim of 0 has the floor 0 and the remainder 0
floor_none : (c : ℕ) (gs : List ℕ) (m : ℕ) → get_or gs m 0 ≡ 0 → (floor_share c gs m ≡ 0) × (remainder c gs m ≡ 0)
unfolding floor_share remainder
floor_none c gs m h = rw (h, mul-zero c) (zero-div (sum gs), zero-mod (sum gs))

-- A member gets one cent if fewer members come before it than there are cents left, and none if not.
abbrev OneOrNone : ℕ → ℕ → ℕ → Type 0
OneOrNone place left x = ((x ≡ 0) × (left ≤ place)) ⊎ ((x ≡ 1) × (place < left))

cent : (c : ℕ) (gs : List ℕ) (m : ℕ) → OneOrNone (rank (remainder c gs) m) (cents_left c gs) (extra_cent c gs m)
unfolding extra_cent
cent c gs m =
    pick_case (OneOrNone (rank (remainder c gs) m) (cents_left c gs))
    (ltb (rank (remainder c gs) m) (cents_left c gs)) 1 0
    (λ e. inr (refl, ltb-true (rank (remainder c gs) m) (cents_left c gs) e))
    (λ e. inl (refl, ltb-false (rank (remainder c gs) m) (cents_left c gs) e))

-- c cents are shared among the claims gs of 32 members
module _ (c : ℕ) (gs : List ℕ) (members : length gs ≡ member_count) where
  abbrev whole : ℕ
  whole = sum gs

  abbrev floors : ℕ
  floors = sum (table member_count (floor_share c gs))

  -- the floors, times the whole, and the remainders add up to all of the products
  parts : floors * whole + sum (table member_count (remainder c gs)) ≡ c * whole
  unfolding floor_share remainder
  parts =
      sum_parts member_count c whole (λ (k : ℕ). get_or gs k 0) ∙ ap (λ (x : ℕ). c * x) (sum_listed gs member_count members)

  no_floors : whole ≤ 0 → floors ≡ 0
  unfolding total
  no_floors h = ap sum (zeros member_count (floor_share c gs) 0 (λ m. (floor_none c gs m (unclaimed gs h m)).0))

  -- the floors add up to at most c
  pub floors_most : floors ≤ c
  floors_most =
      ⊎_elim
      (λ (some : 0 < whole). le_of_mul-le-mul_right {k = whole} (omega (arith, parts)) some)
      (λ (none : whole ≤ 0). omega (arith, no_floors none))
      (below_or_not 0 whole)

  -- the floors and the cents left add up to c
  all_of_it : floors + cents_left c gs ≡ c
  unfolding cents_left
  all_of_it = omega (arith, floors_most)

  -- the remainders add up to the whole times the cents left
  remainders_are : sum (table member_count (remainder c gs)) ≡ cents_left c gs * whole
  remainders_are =
      let p = parts in
      let a = add-mul floors (cents_left c gs) whole in
      let e = ap (λ (x : ℕ). x * whole) all_of_it in
      omega arith

  abbrev rounded : ℕ → Bool
  rounded k = ltb 0 (remainder c gs k)

  -- at least as many members have a remainder above 0 as there are cents left
  enough : 0 < whole → cents_left c gs ≤ count_below member_count rounded
  unfolding remainder
  enough some =
      let e = remainders_are in
      let f = sum_counted member_count (remainder c gs) whole (λ k. let l = mod-lt (c * get_or gs k 0) some in omega arith) in
      le_of_mul-le-mul_right {k = whole} (omega arith) some

  -- a member without a remainder comes after all members that have one
  last : (m : ℕ) → remainder c gs m ≤ 0 → count_below member_count rounded ≤ rank (remainder c gs) m
  unfolding rank
  last m h =
      count_most member_count rounded (λ (k : ℕ). comes_before (remainder c gs) k m)
      (λ k l e. first k (ltb-true 0 (remainder c gs k) e))
    where
      first : (k : ℕ) → 0 < remainder c gs k → comes_before (remainder c gs) k m ≡ true
      first k l = comes_first (remainder c gs) k m (inl (omega arith))

  -- from here on no more is collected than is claimed
  module _ (covered : c ≤ sum gs) where
    left_of_none : whole ≤ 0 → cents_left c gs ≡ 0
    left_of_none h = omega (arith, all_of_it)

    few : cents_left c gs ≤ member_count
    few =
        ⊎_elim
        (λ (some : 0 < whole). omega (arith, enough some, count_within member_count rounded))
        (λ (none : whole ≤ 0). omega (arith, left_of_none none))
        (below_or_not 0 whole)

    -- a member that gets one of the cents left has a remainder above 0
    winner : (m : ℕ) → rank (remainder c gs) m < cents_left c gs → 0 < remainder c gs m
    winner m h = ⊎_elim claimed (λ (none : whole ≤ 0). absurd (omega (arith, left_of_none none))) (below_or_not 0 whole)
      where
        claimed : 0 < whole → 0 < remainder c gs m
        claimed some =
            ⊎_elim
            (λ (l : 0 < remainder c gs m). l)
            (λ (l : remainder c gs m ≤ 0). absurd (omega (arith, last m l, enough some)))
            (below_or_not 0 (remainder c gs m))

    no_extra : (m : ℕ) → get_or gs m 0 ≡ 0 → extra_cent c gs m ≡ 0
    no_extra m h =
        ⊎_elim (λ w. w.0) (λ w. absurd (omega (arith, winner m w.1, (floor_none c gs m h).1))) (cent c gs m)

    -- Each member gets its floor and, by its rank, a cent. Where the definition gives 0 for want of a claim, both are 0
    -- anyway.
    share_is : (m : ℕ) → share c gs m ≡ floor_share c gs m + extra_cent c gs m
    share_is m =
        ⊎_elim
        (λ (g : 0 < get_or gs m 0). share_claimed c gs m g)
        (λ (g : get_or gs m 0 ≤ 0). none (omega arith))
        (below_or_not 0 (get_or gs m 0))
      where
        none : get_or gs m 0 ≡ 0 → share c gs m ≡ floor_share c gs m + extra_cent c gs m
        none z = omega (arith, share_none c gs m z, (floor_none c gs m z).0, no_extra m z)

    extras : sum (table member_count (extra_cent c gs)) ≡ cents_left c gs
    unfolding extra_cent
    extras =
        sum_ones member_count (λ (m : ℕ). ltb (rank (remainder c gs) m) (cents_left c gs))
        ∙ ranks_below (remainder c gs) (cents_left c gs) few

    -- the shares add up to what is collected
    pub shares_total : sum (shares c gs) ≡ c
    unfolding shares
    shares_total =
        sum_same member_count (share c gs) (λ (m : ℕ). floor_share c gs m + extra_cent c gs m) (λ m l. share_is m)
        ∙ sum_both 0 member_count (floor_share c gs) (extra_cent c gs)
        ∙ ap (λ (x : ℕ). floors + x) extras
        ∙ all_of_it

    -- a member gets its floor or one cent more
    pub shares_floor : (m : ℕ) → m < member_count →
        (get_or (shares c gs) m 0 ≡ floor_share c gs m) ⊎ (get_or (shares c gs) m 0 ≡ floor_share c gs m + 1)
    shares_floor m l =
        let e = share_at c gs m l ∙ share_is m in
        ⊎_elim (λ w. inl (omega arith)) (λ w. inr (omega arith)) (cent c gs m)

    product_most : (m : ℕ) → c * get_or gs m 0 ≤ get_or gs m 0 * whole
    product_most m =
        let p = mul-le-mul_right {m = c} {n = whole} (get_or gs m 0) covered in
        omega (arith, mul_comm whole (get_or gs m 0))

    -- a floor is at most its claim
    floor_within : (m : ℕ) → 0 < whole → floor_share c gs m ≤ get_or gs m 0
    unfolding floor_share
    floor_within m some =
        le_of_mul-le-mul_right {k = whole} (omega (arith, div-add-mod' (c * get_or gs m 0) whole, product_most m)) some

    -- a floor is below its claim where there is a remainder
    floor_less : (m : ℕ) → 0 < remainder c gs m → floor_share c gs m < get_or gs m 0
    unfolding floor_share remainder
    floor_less m some =
        lt_of_mul-lt-mul_right whole (omega (arith, div-add-mod' (c * get_or gs m 0) whole, product_most m))

    claimed_most : (m : ℕ) → 0 < get_or gs m 0 → share c gs m ≤ get_or gs m 0
    claimed_most m g =
        let e = share_is m in
        let s : 0 < whole = omega (arith, one_most gs m) in
        ⊎_elim (λ w. omega (arith, floor_within m s)) (λ w. omega (arith, floor_less m (winner m w.1))) (cent c gs m)

    -- a share is at most its claim
    pub shares_most : (m : ℕ) → m < member_count → get_or (shares c gs) m 0 ≤ get_or gs m 0
    shares_most m l =
        let e = share_at c gs m l in
        ⊎_elim
        (λ (g : 0 < get_or gs m 0). omega (arith, claimed_most m g))
        (λ (g : get_or gs m 0 ≤ 0). omega (arith, share_none c gs m (omega arith)))
        (below_or_not 0 (get_or gs m 0))

    won : (m : ℕ) → extra_cent c gs m ≡ 1 → rank (remainder c gs) m < cents_left c gs
    won m e = ⊎_elim (λ w. absurd (omega arith)) (λ w. w.1) (cent c gs m)

    missed : (m : ℕ) → extra_cent c gs m ≡ 0 → cents_left c gs ≤ rank (remainder c gs) m
    missed m e = ⊎_elim (λ w. w.1) (λ w. absurd (omega arith)) (cent c gs m)

    -- The cents go to the larger remainders, and of two alike to the lower member: a member that got one comes before a
    -- member that did not.
    pub shares_ranked : (m k : ℕ) → m < member_count → k < member_count → get_or (shares c gs) m 0 ≡ floor_share c gs m + 1 →
        get_or (shares c gs) k 0 ≡ floor_share c gs k → comes_before (remainder c gs) m k ≡ true
    shares_ranked m k lm lk em ek =
        let x = share_at c gs m lm ∙ share_is m in
        let y = share_at c gs k lk ∙ share_is k in
        rank_first (remainder c gs) m k lk (omega (arith, won m (omega arith), missed k (omega arith)))

-- where just as much is collected as is claimed, the floor of a claim is the claim itself
whole_floor : (gs : List ℕ) (m : ℕ) → 0 < get_or gs m 0 → floor_share (sum gs) gs m ≡ get_or gs m 0
unfolding floor_share
whole_floor gs m some = mul-div_right (get_or gs m 0) {m = sum gs} (omega (arith, one_most gs m))

-- then each member gets its claim
module _ (gs : List ℕ) (members : length gs ≡ member_count) where
  all_claimed : sum gs ≤ sum gs
  all_claimed = omega arith

  whole_share : (m : ℕ) → m < member_count → get_or (shares (sum gs) gs) m 0 ≡ get_or gs m 0
  whole_share m l =
      ⊎_elim
      (λ (g : 0 < get_or gs m 0).
      ⊎_elim (λ w. w ∙ whole_floor gs m g) (λ w. absurd (omega (arith, whole_floor gs m g, shares_most (sum gs) gs members all_claimed m l)))
      (shares_floor (sum gs) gs members all_claimed m l))
      (λ (g : get_or gs m 0 ≤ 0). let z : get_or gs m 0 ≡ 0 = omega arith in shares_no_claim (sum gs) gs m l z ∙ sym z)
      (below_or_not 0 (get_or gs m 0))

  pub shares_whole : shares (sum gs) gs ≡ gs
  unfolding shares
  shares_whole =
      let size : length (shares (sum gs) gs) ≡ member_count = table_length member_count (share (sum gs) gs) in
      ext_get_or 0 (shares (sum gs) gs) gs (size ∙ sym members) (λ m l. whole_share m (omega (arith, size)))
