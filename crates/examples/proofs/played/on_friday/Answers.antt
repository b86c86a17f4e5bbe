-- `on_friday` meets its contract.
use mathlib.Core.Path.{ap, ◌∙◌}
use Rattle.calendar.specs.Closed.{day}
use Rattle.book.specs.declared.Book.{Book}
use Rattle.book.specs.declared.Opened.{Opened}
use Rattle.book.specs.declared.Done.{Done}
use Rattle.book.specs.Rating.{rated}
use Rattle.examples.specs.Played.{book_after, sale_on}
use borrow.Author.Rules.{rules}
use Rattle.examples.proofs.played.on_friday.Goals as goal

pub returns : goal.returns
returns c =
    let fresh = ap (λ (o : Opened). o.book) c.open-opened.ensures.value in
    let one = ap (λ (d : Done). d.book) (c.rate-ahead.ensures.value ∙ ap (λ (b : Book). rated b (day 7) 20) fresh) in
    let two = ap (λ (d : Done). d.book) (c.rate-current.ensures.value ∙ ap (λ (b : Book). rated b (day 6) 10) one) in
    record {
      value = c.with_sale.ensures.value ∙ ap (λ (b : Book). book_after b (sale_on 6 3 0 1000 1000)) two;
      valid = search rules;
    }
