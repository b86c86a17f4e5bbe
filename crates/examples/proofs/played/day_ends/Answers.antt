-- `day_ends` meets its contract.
use mathlib.Core.Path.{ap}
use Rattle.book.specs.declared.Closed.{Closed}
use borrow.Author.Rules.{rules}
use Rattle.examples.proofs.played.day_ends.Goals as goal

pub returns : goal.returns
returns c = record {
  value = ap (λ (o : Closed). o.book) c.close-closed.ensures.value;
  valid = search rules;
}
