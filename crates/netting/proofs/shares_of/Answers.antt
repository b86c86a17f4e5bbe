-- `shares_of` meets its contract: for each member it takes the share of the portions, which is its share by the rules.
use Rattle.std.proofs.Common.{rules, arith, ◌≡◌, ◌∙◌, ◌≤◌, ◌^◌, get_or, pos, ap}
use Rattle.basics.proofs.Arrays.{mapped_is, made_is, asked_below}
use Rattle.netting.specs.Accounts.{claim, claims}
use Rattle.netting.specs.Portions.{Dividable, floor_of, share_of}
use Rattle.netting.specs.Shares.{share, shares}
use Rattle.netting.specs.declared.Portions.{Portions}
use Rattle.netting.proofs.Steps.{dividable, floor_small, share_made}
use Rattle.netting.proofs.shares_of.Goals as goal
use Rattle.netting.proofs.shares_of.Goals.{After-map-claims}

claimed : (c : After-map-claims) → c.map-claims.result ≡ claims c.args.accounts
claimed c = mapped_is claim (pos 0) (λ x y q k. search rules) (search rules) c.map-claims.ensures.items

asked : (c : After-map-claims) → Dividable c.args.collected c.map-claims.result
asked c = rw (claimed c) (dividable c.args.accounts c.args.collected (search rules) c.requires)

pub portions_of-portions-requires : goal.portions_of-portions-requires
portions_of-portions-requires c = asked (goal.at.portions_of-portions-requires c).After-map-claims

pub from_fn-requires : goal.from_fn-requires
from_fn-requires c =
    let p = c.portions_of-portions in (
      omega arith,
      asked_below (λ x q k. search rules)
          (λ x l.
          let small : floor_of p.result.parts x ≤ 2 ^ 48 =
          floor_small c.args.collected c.map-claims.result p.result c.map-claims.ensures.items.long (asked (goal.at.from_fn-requires c).After-map-claims) p.ensures x in
          search rules),
    )

pub returns : goal.returns
unfolding shares
returns c =
    let n = c.args.collected in
    let gs = c.map-claims.result in
    let p = c.portions_of-portions in
    made_is (λ m. share_of (get_or gs m 0) p.result m) (share n gs) (λ x y q k. search rules)
    (λ m l. ap (λ (q : Portions). share_of (get_or gs m 0) q m) p.ensures ∙ share_made n gs m l)
    c.from_fn.ensures.items
    ∙ ap (shares n) (claimed (goal.at.returns c).After-map-claims)
