-- `with_offer` meets its contract.
use mathlib.Core.Path.{ap}
use Rattle.book.specs.declared.Done.{Done}
use borrow.Author.Rules.{rules}
use Rattle.examples.proofs.played.with_offer.Goals as goal

pub returns : goal.returns
returns c = record {
  value = ap (λ (d : Done). d.book) c.offer-offered.ensures.value;
  valid = search rules;
}
