-- The numbers stand at the end of what was written before.
use Rattle.std.proofs.Common.{arith, rules}
use Rattle.std.proofs.lemmas.Grind.{common_steps}
use Rattle.writing.proofs.Writing.{spaced_most, wrote_shown}
use Rattle.writing.proofs.Output.further.Goals as goal

pub invariant_of-self : goal.invariant_of-self
invariant_of-self g c = grind (arith, common_steps, spaced_most c.args.numbers.now, c.write_further-self-inside.ensures.place)

pub returns : goal.returns
returns g c =
    let told = wrote_shown c.write_further-self-inside.ensures (grind (arith, common_steps, spaced_most c.args.numbers.now)) in
    grind (arith, common_steps, told)
