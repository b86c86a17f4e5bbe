-- How the sum collected in a month is shared among the claims. Here c is the sum collected, C in the rules. gs are the
-- 32 claims in rising member number, and their sum is G in the rules.
use Rattle.std.specs.Prelude.{ℕ, ◌+◌, ◌-◌, ◌*◌, ◌/◌, ◌%◌, Bool, true, false, List, ltb, get_or}
use Rattle.basics.specs.Choice.{pick}
use Rattle.basics.specs.Lists.{sum, table, count_below}
use Rattle.netting.specs.Accounts.{member_count}

-- M5, Month: claim g first gets C × g / G, rounded down
unfoldable pub floor_share : ℕ → List ℕ → ℕ → ℕ
floor_share c gs m = c * get_or gs m 0 / sum gs

-- M6, Month: the remainder of C × g by G
unfoldable pub remainder : ℕ → List ℕ → ℕ → ℕ
remainder c gs m = c * get_or gs m 0 % sum gs

-- M6, Month: the cents of C that are left over once each claim has its share rounded down
unfoldable pub cents_left : ℕ → List ℕ → ℕ
cents_left c gs = c - sum (table member_count (floor_share c gs))

-- M6, Month: whether member k comes before member m for a cent: the larger remainder comes first, and of two alike the
-- lower member
unfoldable pub comes_before : (ℕ → ℕ) → ℕ → ℕ → Bool
comes_before r k m = pick (ltb (r m) (r k)) true (pick (ltb (r k) (r m)) false (ltb k m))

-- M6, Month: how many of the 32 members come before member m
unfoldable pub rank : (ℕ → ℕ) → ℕ → ℕ
rank r m = count_below member_count (λ k. comes_before r k m)

-- M6, Month: member m gets one of the cents left if fewer members come before it than there are cents
unfoldable pub extra_cent : ℕ → List ℕ → ℕ → ℕ
extra_cent c gs m = pick (ltb (rank (remainder c gs) m) (cents_left c gs)) 1 0

-- M7 and M8, Month: what member m gets: its share rounded down, and at most one of the cents left; a member without a
-- claim gets 0
unfoldable pub share : ℕ → List ℕ → ℕ → ℕ
share c gs m = pick (ltb 0 (get_or gs m 0)) (floor_share c gs m + extra_cent c gs m) 0

-- M5 to M8, Month: what each of the 32 members gets
unfoldable pub shares : ℕ → List ℕ → List ℕ
shares c gs = table member_count (share c gs)
