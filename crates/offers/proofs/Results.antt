-- Laws on how the result of a buy-in is read.
use Prim.Native.Nat.{ℕ, ◌≤◌}
use native.Mathlib.Omega.{arith}
use mathlib.Core.Path.{◌≡◌}
use mathlib.Core.List.{List}
use lib.ListN.{length, take, length-take}
use Rattle.basics.specs.Lists.{table, sum}
use Rattle.basics.proofs.Places.{padded_front, padded_length}
use Rattle.offers.specs.declared.Given.{Given}
use Rattle.offers.specs.declared.Offers.{Offers}
use Rattle.offers.specs.Held.{most_offers, listed_offers}
use Rattle.offers.specs.BuyIn.{given, nothing_given, bought_with}
use Rattle.offers.proofs.Giving.{given_most, given_all_most}

-- no more places are filled than offers are held
pub lines_most : (i left : ℕ) (s : Offers) → length (given i left (listed_offers s)) ≤ s.count
lines_most i left s = omega (arith, given_most i left (listed_offers s), length-take s.count s.rows)

-- this also holds for all obligations below n together, whatever is left of each
pub all_lines_most : (n : ℕ) (left : ℕ → ℕ) (s : Offers)
    → sum (table n (λ i. length (given i (left i) (listed_offers s)))) ≤ s.count
all_lines_most n left s = omega (arith, given_all_most n left (listed_offers s), length-take s.count s.rows)

-- the first count places hold what was given
pub bought_given : (gs : List Given) → take (bought_with gs).count (bought_with gs).given ≡ gs
bought_given gs = padded_front most_offers nothing_given gs

-- there are 64 places
pub bought_size : (gs : List Given) → length gs ≤ most_offers → length (bought_with gs).given ≡ most_offers
bought_size gs h = padded_length most_offers nothing_given gs h
