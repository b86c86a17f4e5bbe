-- `parts_of` meets its contract: its closure divides by the sum of the claims.
use Rattle.std.proofs.Common.{rules, ◌*◌}
use Rattle.basics.proofs.Arrays.{mapped_is}
use Rattle.basics.specs.Lists.{sum}
use Rattle.amounts.specs.Quotients.{divided}
use Rattle.netting.proofs.parts_of.Goals as goal

pub returns : goal.returns
returns c =
    let a = c.args in
    mapped_is (λ x. divided (a.collected * x) (sum a.claims.now)) 0 (λ x y q k. search rules) (search rules) c.map.ensures.items
