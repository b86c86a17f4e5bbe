-- `transfer` meets its contract: both accounts stay far inside 64 bits, so the machine computes them exactly.
use Rattle.std.proofs.Common.{rules}
use Rattle.netting.specs.Accounts.{transferred, credited, debited}
use Rattle.netting.proofs.transfer.Goals as goal

pub returns : goal.returns
unfolding transferred credited debited
returns c = search rules
