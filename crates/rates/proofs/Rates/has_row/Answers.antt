-- `has_row` meets its contract.
use Rattle.std.proofs.Common.{rules, tests, ◌∙◌, sym, nat_eq}
use Rattle.std.proofs.lemmas.Iterator.{YieldsList-from_slice}
use Rattle.std.proofs.lemmas.Iterator.Search.{any_from_yields_List}
use Rattle.rates.specs.Rows.{start_of, listed_rates}
use Rattle.rates.proofs.Searching.{holds_any}
use Rattle.rates.proofs.Rates.has_row.Goals as goal

pub returns : goal.returns
returns c =
    let rows = listed_rates c.args.self.now in
    any_from_yields_List (λ r. nat_eq (start_of r).0 c.args.start.0) _ _ _ c.any.ensures.ran (YieldsList-from_slice rows (cc)) (λ x b q k. search (rules, tests))
    ∙ sym (holds_any c.args.start rows)
