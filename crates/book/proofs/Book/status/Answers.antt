-- `status` meets its contract.
use mathlib.Core.Path.{refl, sym, ap, ◌∙◌}
use mathlib.Core.List.{[]}
use Rattle.basics.proofs.Refusals.{all_passed}
use Rattle.book.specs.Showing.{status_refused, status_done, status}
use Rattle.refusals.proofs.Named.{absent_refused, found_done}
use Rattle.book.proofs.Book.status.Goals as goal

pub returns-in_default-clause-value : goal.returns-in_default-clause-value
unfolding status
returns-in_default-clause-value c =
    ap (status_refused c.args.self) c.from.ensures ∙ absent_refused [] (λ o. []) (status_done _) (status_refused _) refl all_passed _ (sym c.fetch.ensures ∙ c.in_default.is)

pub returns-clause-value : goal.returns-clause-value
unfolding status
returns-clause-value c = found_done [] (λ o. []) (status_done _) (status_refused _) refl all_passed _ _ (sym c.fetch.ensures ∙ c.in-Found.is) all_passed
