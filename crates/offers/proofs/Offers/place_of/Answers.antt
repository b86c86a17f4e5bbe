-- `place_of` meets its contract.
use Rattle.std.proofs.Common.{rules, tests, ◌≡◌, ◌∙◌, sym, ap, length, position, unwrap_or}
use Rattle.std.proofs.lemmas.Iterator.{YieldsList-from_slice}
use Rattle.std.proofs.lemmas.Iterator.Search.{position_from_yields_List}
use Rattle.basics.proofs.Cases.{length_mapped}
use Rattle.basics.proofs.Positions.{first_place}
use Rattle.offers.specs.Rank.{overtakes}
use Rattle.offers.specs.Held.{most_offers, listed_offers}
use Rattle.offers.proofs.Holding.{listed_length}
use Rattle.offers.proofs.Offers.place_of.Goals as goal

pub returns : goal.returns
returns c =
    let s = c.args.self.now in
    let rows = listed_offers s in
    let over = overtakes c.args.o in
    let size : length s.rows ≡ most_offers = search (length_mapped, rules) in
    let found : c.position-found.result ≡ position over rows =
    position_from_yields_List over _ _ _ c.position-found.ensures.ran (YieldsList-from_slice rows (cc)) (λ x b q k. search (rules, tests)) in
    c.unwrap_or.ensures ∙ ap (λ o. unwrap_or o s.count) found
    ∙ ap (unwrap_or (position over rows)) (sym (listed_length s (rw size c.requires)))
    ∙ first_place over rows
