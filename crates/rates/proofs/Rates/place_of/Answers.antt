-- `place_of` meets its contract.
use Rattle.std.proofs.Common.{rules, tests, ◌≡◌, ◌∙◌, sym, ap, nat_eq, length, position, unwrap_or}
use Rattle.std.proofs.lemmas.Iterator.{YieldsList-from_slice}
use Rattle.std.proofs.lemmas.Iterator.Search.{position_from_yields_List}
use Rattle.basics.proofs.Cases.{length_mapped}
use Rattle.basics.proofs.Positions.{first_place}
use Rattle.rates.specs.Rows.{most_rows, start_of, listed_rates}
use Rattle.rates.proofs.Placing.{listed_length}
use Rattle.rates.proofs.Searching.{place_position}
use Rattle.rates.proofs.Rates.place_of.Goals as goal

pub returns : goal.returns
returns c =
    let s = c.args.self.now in
    let rows = listed_rates s in
    let size : length s.rows ≡ most_rows = search (length_mapped, rules) in
    let found : c.position-found.result ≡ position (λ r. nat_eq (start_of r).0 c.args.start.0) rows =
    position_from_yields_List (λ r. nat_eq (start_of r).0 c.args.start.0) _ _ _ c.position-found.ensures.ran (YieldsList-from_slice rows (cc)) (λ x b q k. search (rules, tests)) in
    c.unwrap_or.ensures ∙ ap (λ o. unwrap_or o s.count) found ∙ ap (unwrap_or (position _ rows)) (sym (listed_length s size c.requires))
    ∙ first_place _ rows ∙ place_position c.args.start rows
