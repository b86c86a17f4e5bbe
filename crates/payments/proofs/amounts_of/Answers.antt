-- `amounts_of` meets its contract: where the list is empty, each member paid what it owes.
use Rattle.std.proofs.Common.{rules, pos, sym, ◌∙◌}
use Rattle.basics.proofs.Arrays.{mapped_is}
use Rattle.netting.specs.Accounts.{owed}
use Rattle.payments.proofs.Collected.{paid_none}
use Rattle.payments.proofs.amounts_of.Goals as goal

pub returns-then-is_empty-clause-value : goal.returns-then-is_empty-clause-value
returns-then-is_empty-clause-value c =
    mapped_is owed (pos 0) (λ x y q k. search rules) (search rules) c.map.ensures.items
    ∙ sym (paid_none _ _ (search rules))
