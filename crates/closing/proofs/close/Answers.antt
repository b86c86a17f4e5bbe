-- `close` meets its contract.
use native.Mathlib.Omega.{arith}
use mathlib.Core.Path.{sym, ◌∙◌}
use Rattle.closing.proofs.Together.{done_none, done_due, done_idle, done_sound, done_accounts, done_transferable, done_closes, done_room, done_closed}
use Rattle.closing.proofs.close.Goals as goal
use Rattle.closing.proofs.close.Goals.{then-is_due, else-is_due}

pub loop-i-init : goal.loop-i-init
loop-i-init c = done_none _ _ _

pub penalty_on-cents-requires : goal.penalty_on-cents-requires
penalty_on-cents-requires c = (done_sound _ _ _ _ _ _ _ c.loop-i.invariant c.requires c.loop-i-test.true, c.requires.end)

pub transfer-requires : goal.transfer-requires
transfer-requires c = (
  rw (c.penalty_sides-sides.ensures, c.penalty_on-cents.ensures) (done_transferable _ _ _ _ _ _ _ c.loop-i.invariant c.requires c.loop-i-test.true),
  done_accounts _ _ _ _ _ _ _ c.loop-i.invariant ∙ c.requires.valid.accounts.size,
)

pub close_due-requires-clause-closes : goal.close_due-requires-clause-closes
close_due-requires-clause-closes c =
    (done_closes _ _ _ _ _ _ _ c.loop-i.invariant c.requires c.loop-i-test.true, c.penalty_on-cents.ensures)

pub close_due-requires-clause-room : goal.close_due-requires-clause-room
close_due-requires-clause-room c =
    done_room _ _ _ _ _ _ _ c.loop-i.invariant c.requires c.loop-i-test.true (sym c.is_due.ensures ∙ c.if-is_due.true)

pub loop-i-preserved : goal.loop-i-preserved
loop-i-preserved c =
    elim c.if-is_due.branch [
      | then-is_due w ↦
          rw (w.ledger-is, w.lines-is, w.count-is)
          (done_due _ _ _ _ _ _ _ c.loop-i.invariant (sym c.is_due.ensures ∙ w.if-is_due.true) _
          (rw (← w.penalty_sides-sides.ensures, ← w.penalty_on-cents.ensures) w.transfer.ensures) _ _ w.close_due.ensures)
      | else-is_due w ↦
          rw (w.ledger-is, w.lines-is, w.count-is) (done_idle _ _ _ _ _ _ _ c.loop-i.invariant (sym c.is_due.ensures ∙ w.if-is_due.false))
    ]

pub returns : goal.returns
returns c =
    done_closed c.args.day.now c.args.ledger.now c.loop-i.ledger c.loop-i.i _ _ _ _ c.requires (omega (arith, c.loop-i.auto, c.loop-i-test.false)) c.loop-i.invariant
    c.none-ledger.ensures
