-- `closed_once` meets its contract.
use mathlib.Core.Path.{ap, ◌∙◌}
use Rattle.ledger.specs.Lines.{fewest_words}
use Rattle.book.specs.declared.Book.{Book}
use Rattle.book.specs.declared.Closed.{Closed}
use Rattle.book.specs.Close.{close}
use borrow.Author.Rules.{rules}
use Rattle.examples.specs.Played.{book_after, sale}
use Rattle.examples.proofs.played.closed_once.Goals as goal

pub returns : goal.returns
returns c =
    let one = c.with_sale.ensures.value ∙ ap (λ (b : Book). book_after b (sale 3 0 200 1000)) c.rated.ensures.value in
    let two = c.with_sale-sold.ensures.value ∙ ap (λ (b : Book). book_after b (sale 3 1 100 1000)) one in
    record {
      value = ap (λ (k : Closed). k.book) (c.close-closed.ensures.value ∙ ap (λ (b : Book). close b 100000 fewest_words) two);
      valid = search rules;
    }
