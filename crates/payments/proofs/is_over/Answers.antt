-- `is_over` meets its contract: the two lists are tested pair by pair.
use Rattle.std.proofs.Common.{rules, ltb, sym, ◌∙◌}
use Rattle.std.proofs.lemmas.Iterator.{YieldsList-from_slice, YieldsList-from_zip}
use Rattle.std.proofs.lemmas.Iterator.Search.{any_from_yields_List}
use Rattle.netting.specs.Accounts.{owed}
use Rattle.payments.proofs.Collected.{over_any}
use Rattle.payments.proofs.is_over.Goals as goal

pub returns : goal.returns
returns c =
    let a = c.args in
    any_from_yields_List (λ p. ltb (owed p.0) p.1) c.any.new.self _ _ c.any.ensures.ran
    (YieldsList-from_zip (YieldsList-from_slice a.accounts.now (cc)) (YieldsList-from_slice a.list.now (cc))) (λ x b q k. search rules)
    ∙ sym (over_any a.accounts.now a.list.now)
