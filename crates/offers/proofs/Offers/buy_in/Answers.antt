-- `buy_in` meets its contract. The loop's invariant is `Passed`: what was bought so far and what the offers to come will
-- give are together what all offers give.
use Rattle.std.proofs.Common.{rules, arith, ◌≡◌, ◌∙◌, ap, refl, length, ◌≤◌}
use Rattle.basics.proofs.Cases.{length_mapped}
use Rattle.offers.specs.Held.{most_offers}
use Rattle.offers.specs.BuyIn.{given, bought_with}
use Rattle.offers.proofs.Holding.{listed_length}
use Rattle.offers.proofs.Passing.{passed_same, passed_gives, passed_over, passed_all}
use Rattle.offers.proofs.Offers.buy_in.Goals as goal
use Rattle.offers.proofs.Offers.buy_in.Goals.{then-q-gt0, else-q-gt0}

pub loop-offer-preserved : goal.loop-offer-preserved
loop-offer-preserved c =
    let s = c.args.self.now in
    let size : length s.rows ≡ most_offers = search (length_mapped, rules) in
    let few : length c.listed-offer-items.result.now ≤ most_offers =
    omega (arith, ap length c.listed-offer-items.ensures, listed_length s (rw size c.requires), c.requires) in
    let more = c.loop-offer-test.true in
    let q = c.quantity_from-q.ensures in
    elim c.if-q-gt0.branch [
      | then-q-gt0 w ↦
          passed_same _ _ _ w.bought-is w.count-is w.rest-is
          (passed_gives _ _ _ _ _ _ _ c.loop-offer.invariant few more _ refl _ q w.if-q-gt0.true)
      | else-q-gt0 w ↦
          passed_same _ _ _ w.bought-is w.count-is w.rest-is
          (passed_over _ _ _ _ _ _ _ c.loop-offer.invariant few more _ refl _ q w.if-q-gt0.false)
    ]

pub returns : goal.returns
returns c =
    passed_all _ _ _ _ _ _ _ c.loop-offer.invariant c.loop-offer-test.false
    ∙ ap (λ xs. bought_with (given c.args.obligation c.args.left xs)) c.listed-offer-items.ensures
