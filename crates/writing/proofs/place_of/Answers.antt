-- As many bytes are ahead of the one that is searched for as its place says, and all of them if there is none.
use Rattle.std.proofs.Common.{arith}
use Rattle.std.proofs.lemmas.Grind.{common_steps}
use Rattle.basics.specs.Lists.{between}
use Rattle.basics.proofs.Fronts.{up_most}
use Rattle.writing.proofs.Searching.{up_to_position}
use Rattle.writing.proofs.place_of.Goals as goal

pub returns-in-Some : goal.returns-in-Some
returns-in-Some c =
    grind (arith, common_steps, up_to_position c.args.byte (between c.args.from c.args.to c.args.bytes.now))

pub returns-in-None : goal.returns-in-None
returns-in-None c =
    grind (arith, common_steps, up_to_position c.args.byte (between c.args.from c.args.to c.args.bytes.now), up_most c.args.byte (between c.args.from c.args.to c.args.bytes.now))
