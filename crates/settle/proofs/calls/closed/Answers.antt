-- `closed` meets its contract.
use mathlib.Core.Path.{ap}
use Rattle.settle.specs.Calls.{played_with}
use Rattle.settle.proofs.calls.closed.Goals as goal

pub returns : goal.returns
returns c = ap (played_with c.args.done.book) c.closed.ensures
