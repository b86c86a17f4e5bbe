-- `rated` meets its contract.
use mathlib.Core.Path.{ap, ◌∙◌}
use Rattle.calendar.specs.Closed.{day}
use Rattle.book.specs.declared.Book.{Book}
use Rattle.book.specs.declared.Done.{Done}
use Rattle.book.specs.Rating.{rated}
use borrow.Author.Rules.{rules}
use Rattle.examples.proofs.played.rated.Goals as goal

pub returns : goal.returns
returns c =
    let r = c.args.rate in
    record {
      value = ap (λ (d : Done). d.book) (c.rate-entered.ensures.value ∙ ap (λ (b : Book). rated b (day 2) r) c.opened.ensures.value);
      valid = search rules;
    }
