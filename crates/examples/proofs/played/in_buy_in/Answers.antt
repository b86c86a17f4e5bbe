-- `in_buy_in` meets its contract.
use mathlib.Core.Path.{ap, ◌∙◌}
use mathlib.Core.List.{[], ◌∷◌}
use Rattle.book.specs.declared.Book.{Book}
use Rattle.examples.specs.Played.{book_after, sale, close_at, days_pass}
use borrow.Author.Rules.{rules}
use Rattle.examples.proofs.played.in_buy_in.Goals as goal

pub returns : goal.returns
returns c = let price = c.args.price in record {
  value = c.day_ends.ensures.value
      ∙ ap (λ (b : Book). book_after b (close_at price ∷ [])) (c.days_pass.ensures.value ∙ ap (λ (b : Book). book_after b (days_pass 10)) (c.with_sale.ensures.value ∙ ap (λ (b : Book). book_after b (sale 0 1 10 1000000)) c.rated.ensures.value));
  valid = search rules;
}
