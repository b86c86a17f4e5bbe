-- After the first number there is room for the others.
use Rattle.std.proofs.Common.{arith, rules}
use Rattle.std.proofs.lemmas.Grind.{common_steps}
use Rattle.writing.proofs.Digits.{digits_most}
use Rattle.writing.proofs.Output.numbers.Goals as goal

pub further-requires : goal.further-requires
further-requires g c = (search rules, grind (arith, common_steps, digits_most c.in-Some.first.now))
