-- `read_on` meets its contract.
use mathlib.Core.Path.{refl, sym, ap, ◌∙◌}
use Rattle.lines.specs.declared.Feed.{Feed}
use Rattle.settle.specs.declared.flow.Course.TheVariants.{Going}
use Rattle.settle.specs.Flow.{flow_at}
use Rattle.settle.proofs.Flows.{read_by}
use Rattle.settle.proofs.flow.read_on.Goals as goal

pub returns-in-Bytes : goal.returns-in-Bytes
returns-in-Bytes c =
    read_by _ _ (sym c.in-Bytes.is ∙ c.read_as.ensures)
    (ap (λ (f : Feed). flow_at f Going) c.filled.ensures)

pub returns-in-Nothing : goal.returns-in-Nothing
returns-in-Nothing c = read_by _ _ (sym c.in-Nothing.is ∙ c.read_as.ensures) refl

pub returns-in-Error : goal.returns-in-Error
returns-in-Error c = read_by _ _ (sym c.in-Error.is ∙ c.read_as.ensures) c.failed.ensures
