-- `tolerance` meets its contract.
use Rattle.examples.proofs.Settled.{example_5, example_6}
use Rattle.examples.proofs.played.tolerance.Goals as goal

pub one_of_three-requires : goal.one_of_three-requires
one_of_three-requires c = example_5

pub one_of_three-requires-2 : goal.one_of_three-requires-2
one_of_three-requires-2 c = example_6
