-- `buy_in` meets its contract.
use Rattle.closing.specs.Stages.{buy_in_at}
use Rattle.closing.proofs.Parts.{given_listed, given_buys}
use Rattle.closing.proofs.Closing.buy_in.Goals as goal

pub buy_all-requires-clause-buys : goal.buy_all-requires-clause-buys
buy_all-requires-clause-buys c =
    rw (given_listed _ _ c.buy_in-bought.ensures) (given_buys c.args.offers.now c.args.self.now.number c.args.self.now.obligation c.requires.sound.0 c.requires.sound.1)

pub buy_all-requires-clause-room : goal.buy_all-requires-clause-room
unfolding buy_in_at
buy_all-requires-clause-room c = rw (given_listed _ _ c.buy_in-bought.ensures) c.requires.room

pub returns : goal.returns
unfolding buy_in_at
returns c = rw (given_listed _ _ c.buy_in-bought.ensures) at c.buy_all.ensures
