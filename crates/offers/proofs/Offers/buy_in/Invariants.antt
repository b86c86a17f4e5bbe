-- `buy_in` meets its contract. The loop's invariant is `Passed`: what was bought so far and what the offers to come will
-- give are together what all offers give.
use Rattle.offers.proofs.Passing.{Passed}
use Rattle.offers.proofs.Offers.buy_in.Given as goal

abbrev pub invariant-loop-offer : goal.invariant-loop-offer
invariant-loop-offer l = Passed l.obligation l.left l.offer-items l.bought l.count l.rest l.offer-index
