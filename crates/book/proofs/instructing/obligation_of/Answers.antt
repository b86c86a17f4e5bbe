-- `obligation_of` meets its contract.
use mathlib.Core.Path.{ap₂, ◌∙◌}
use Rattle.book.specs.Instructing.{obligation_of}
use Rattle.instructions.specs.declared.Leg.{Leg}
use Rattle.ledger.specs.Obligations.{new_obligation}
use Rattle.book.proofs.instructing.obligation_of.Goals as goal

pub returns : goal.returns
unfolding obligation_of
returns c = let a = c.args in c.new.ensures ∙ ap₂ (λ (d r : Leg). new_obligation (record { seller = d.member; buyer = r.member; quantity = a.new.quantity; amount = d.amount; day = a.new.day })) c.delivering-seller.ensures c.receiving.ensures
