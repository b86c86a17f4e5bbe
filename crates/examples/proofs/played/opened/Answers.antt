-- `opened` meets its contract.
use mathlib.Core.Path.{ap}
use Rattle.book.specs.declared.Opened.{Opened}
use borrow.Author.Rules.{rules}
use Rattle.examples.proofs.played.opened.Goals as goal

pub returns : goal.returns
returns c = record {
  value = ap (λ (o : Opened). o.book) c.open-opened.ensures.value;
  valid = search rules;
}
