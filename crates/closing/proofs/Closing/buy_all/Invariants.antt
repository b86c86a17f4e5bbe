-- `buy_all` meets its contract.
use lib.ListN.{take}
use Rattle.closing.specs.Stages.{bought_all}
use Rattle.closing.specs.Lines.{Wrote}
use Rattle.closing.proofs.Closing.buy_all.Given as goal

abbrev pub invariant-loop-from : goal.invariant-loop-from
invariant-loop-from l =
    Wrote l.initial.self l.initial.lines l.self l.lines (bought_all l.initial.self.number (take l.from-index l.given) l.initial.self.obligation)
