-- `before_all` meets its contract.
use mathlib.Core.Path.{ap, ap₂}
use Rattle.settle.specs.Calls.{played_with}
use Rattle.book.specs.declared.Opened.{Opened}
use Rattle.settle.proofs.calls.before_all.Goals as goal

pub returns : goal.returns
returns c = record {
  value = ap₂ played_with (ap (λ (o : Opened). o.book) c.open-opened.ensures.value) c.nothing.ensures;
  valid = c.open-opened.ensures.valid;
}
