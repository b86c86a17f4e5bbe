-- `auction` meets its contract.
use lib.ListN.{get_or}
use mathlib.Core.Path.{◌≡◌, ap, ap₂, ◌∙◌}
use Prim.Native.Nat.{ℕ}
use native.Mathlib.Omega.{arith}
use Rattle.examples.proofs.Same.{none_differs}
use Rattle.offers.specs.BuyIn.{offers_for, with_given, given_by, given, nothing_given, bought_with}
use Rattle.offers.specs.Held.{listed_offers, with_offer}
use Rattle.offers.specs.Rank.{overtakes, inserted_by}
use Rattle.offers.specs.declared.Given.{Given}
use Rattle.offers.specs.declared.BuyIn.{BuyIn}
use Rattle.offers.specs.declared.Offers.{Offers}
use Rattle.examples.proofs.auction.Goals as goal

same_count : {r s : Offers} → r ≡ s → r.count ≡ s.count
same_count e = ap (λ (o : Offers). o.count) e

-- what offers give to ten units of obligation 0
abbrev gives : Offers → BuyIn
gives o = bought_with (given 0 10 (listed_offers o))

-- what is given in a place
abbrev row_at : ℕ → BuyIn → Given
row_at k b = get_or b.given k nothing_given

pub insert-requires : goal.insert-requires
insert-requires c = omega (arith, same_count c.none-offers.ensures)

pub insert-requires-2 : goal.insert-requires-2
insert-requires-2 c = omega (arith, same_count c.insert.ensures, same_count c.none-offers.ensures)

pub insert-requires-3 : goal.insert-requires-3
insert-requires-3 c = omega (arith, same_count c.insert-2.ensures, same_count c.insert.ensures, same_count c.none-offers.ensures)

pub buy_in-bought-requires : goal.buy_in-bought-requires
buy_in-bought-requires c = omega (arith, same_count c.insert-3.ensures, same_count c.insert-2.ensures, same_count c.insert.ensures, same_count c.none-offers.ensures)

pub returns : goal.returns
unfolding overtakes inserted_by offers_for with_given given_by given
returns c =
    let one = c.insert.ensures ∙ ap₂ with_offer c.none-offers.ensures c.offered.ensures in
    let two = c.insert-2.ensures ∙ ap₂ with_offer one c.offered-2.ensures in
    let three = c.insert-3.ensures ∙ ap₂ with_offer two c.offered-3.ensures in
    let bought = c.buy_in-bought.ensures ∙ ap gives three in
    omega (
      arith,
      none_differs (ap (λ (b : BuyIn). b.count) bought) c.compared.ensures.value,
      none_differs (ap (λ (b : BuyIn). (row_at 0 b).offer.supplier) bought) c.compared-2.ensures.value,
      none_differs (ap (λ (b : BuyIn). (row_at 0 b).quantity) bought) c.compared-3.ensures.value,
      none_differs (ap (λ (b : BuyIn). (row_at 1 b).offer.supplier) bought) c.compared-4.ensures.value,
      none_differs (ap (λ (b : BuyIn). (row_at 1 b).quantity) bought) c.compared-5.ensures.value,
    )
