-- What is done depends on whether all is used up, on whether there is room, and on whether the answers could be written.
use Rattle.std.proofs.Common.{refl, sym, ◌∙◌}
use Rattle.settle.specs.Flow.FedOn.{ready, cleared, uncleared, fed, unfed}
use Rattle.settle.proofs.flow.feed_on.Goals as goal

pub returns-then-hand_out : goal.returns-then-hand_out
returns-then-hand_out g c =
    let used = sym c.is_used_up.ensures ∙ c.if-is_used_up.true in
    rw c.hand_out.ensures (fed used c.read_on.auto.part c.read_on.ensures)

pub returns-then-is_used_up : goal.returns-then-is_used_up
returns-then-is_used_up g c =
    let used = sym c.is_used_up.ensures ∙ c.if-is_used_up.true in
    rw (c.hand_out.ensures, c.failed.ensures) (unfed used refl)

pub returns-then-has_room : goal.returns-then-has_room
returns-then-has_room g c =
    let unused = sym c.is_used_up.ensures ∙ c.if-is_used_up.false in
    ready unused (sym c.has_room.ensures ∙ c.if-has_room.true) refl

pub returns-then-hand_out-2 : goal.returns-then-hand_out-2
returns-then-hand_out-2 g c =
    let unused = sym c.is_used_up.ensures ∙ c.if-is_used_up.false in
    rw c.hand_out-2.ensures (cleared unused (sym c.has_room.ensures ∙ c.if-has_room.false) refl)

pub returns : goal.returns
returns g c =
    let unused = sym c.is_used_up.ensures ∙ c.if-is_used_up.false in
    rw (c.hand_out-2.ensures, c.failed-2.ensures) (uncleared unused (sym c.has_room.ensures ∙ c.if-has_room.false) refl)
