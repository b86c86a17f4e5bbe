-- `with_sale` meets its contract.
use mathlib.Core.Path.{ap, ◌∙◌}
use Rattle.calendar.specs.Closed.{day}
use Rattle.book.specs.declared.Book.{Book}
use Rattle.book.specs.declared.Entered.{Entered}
use Rattle.book.specs.Instructing.{enter}
use borrow.Author.Rules.{rules}
use Rattle.examples.proofs.played.with_sale.Goals as goal

pub returns : goal.returns
returns c = let s = c.args in
    let one = ap (λ (o : Entered). o.book) c.enter-delivers.ensures.value in
    record {
      value = ap (λ (o : Entered). o.book) (c.enter-receives.ensures.value ∙ ap (λ (b : Book). enter b s.buyer s.seller 1 s.quantity s.amount (day s.due)) one);
      valid = search rules;
    }
