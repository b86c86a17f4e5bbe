-- `enter` meets its contract.
use Rattle.std.proofs.Common.{rules, ◌≡◌, ap, ◌∙◌, length}
use Rattle.basics.proofs.Cases.{length_mapped}
use Rattle.calendar.specs.declared.Day.{Day}
use Rattle.rates.specs.Rows.{most_rows, start_of, place_of, listed_rates}
use Rattle.rates.proofs.Placing.{entered_new, entered_held}
use Rattle.rates.proofs.Rates.enter.Goals as goal
use Rattle.rates.proofs.Rates.enter.Goals.{After-place_of-at}

sized : (c : After-place_of-at) → length c.args.self.now.rows ≡ most_rows
sized c = search (length_mapped, rules)

-- the place that was found is that of the row's starting day
placed : (c : After-place_of-at) → c.place_of-at.result ≡ place_of (start_of c.args.row) (listed_rates c.args.self.now)
placed c = c.place_of-at.ensures ∙ ap (λ (d : Day). place_of d (listed_rates c.args.self.now)) c.day.ensures

pub returns-then-at-self : goal.returns-then-at-self
returns-then-at-self c =
    let d = (goal.at.returns-then-at-self c).After-place_of-at in
    entered_new _ _ (sized d) c.requires.0 c.requires.1 _ (placed d) c.if-at-self.true

pub returns-else-at-self : goal.returns-else-at-self
returns-else-at-self c =
    let d = (goal.at.returns-else-at-self c).After-place_of-at in
    entered_held _ _ (sized d) c.requires.0 c.requires.1 _ (placed d) c.if-at-self.false
