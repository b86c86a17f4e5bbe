-- `buy_all` meets its contract.
use Prim.Native.Nat.{ℕ}
use lib.ListN.{get_or}
use Rattle.offers.specs.BuyIn.{nothing_given}
use Rattle.closing.specs.Stages.{bought_from, bought_all}
use Rattle.closing.proofs.Lines.{wrote_nothing, wrote_then}
use Rattle.closing.proofs.Bought.{bought_next, next_takes, next_room}
use Rattle.closing.proofs.Closing.buy_all.Goals as goal

pub loop-from-init : goal.loop-from-init
unfolding bought_all
loop-from-init c = wrote_nothing _ _

pub buy_from-requires-clause-takes : goal.buy_from-requires-clause-takes
buy_from-requires-clause-takes c =
    next_takes c.args.self.now.number c.args.self.now.obligation c.args.given.now c.requires.buys _ _ c.loop-from-test.true c.loop-from.invariant.made

pub buy_from-requires-clause-room : goal.buy_from-requires-clause-room
unfolding bought_from
buy_from-requires-clause-room c =
    next_room c.args.self.now.number c.args.self.now.obligation c.args.given.now c.requires.buys _ _ _ _ _ c.loop-from-test.true c.requires.room c.loop-from.invariant

pub loop-from-preserved : goal.loop-from-preserved
loop-from-preserved c =
    rw (bought_next c.args.self.now.number c.args.given.now _ c.args.self.now.obligation nothing_given c.loop-from-test.true)
    (wrote_then _ _ _ _ _ _ _ (λ (n : ℕ). bought_from n (get_or c.args.given.now c.loop-from.from-index nothing_given)) c.loop-from.invariant c.buy_from.ensures)
