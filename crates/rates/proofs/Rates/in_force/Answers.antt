-- `in_force` meets its contract.
use Rattle.std.proofs.Common.{rules, tests, ◌∙◌, sym, None}
use Rattle.std.proofs.lemmas.Iterator.Adapters.{YieldsList-from_rev_slice}
use Rattle.std.proofs.lemmas.Iterator.Consumers.{YieldsList-at, YieldsList-from_filter, fold_from_yields_List}
use Rattle.rates.specs.Rows.{listed_rates}
use Rattle.rates.specs.Force.{has_started, or_later}
use Rattle.rates.proofs.Searching.{force_fold}
use Rattle.rates.proofs.Rates.in_force.Goals as goal

pub returns : goal.returns
returns c =
    let t = c.args.today in
    let rows = listed_rates c.args.self.now in
    fold_from_yields_List _ (λ f r. or_later r f) None _ c.fold.ensures.ran
    (YieldsList-from_filter _ (has_started t) (YieldsList-at c.filter-started.ensures.source (YieldsList-from_rev_slice rows (cc))) c.filter-started.ensures.closure (λ x b q k. search (rules, tests)))
    (λ a x b q k. search (rules, tests))
    ∙ sym (force_fold t rows)
