-- After a label and a number there is room for a line feed.
use Rattle.std.proofs.Common.{arith, rules}
use Rattle.std.proofs.lemmas.Grind.{common_steps}
use Rattle.writing.proofs.Digits.{digits_most}
use Rattle.writing.proofs.Output.labelled.Goals as goal

pub line_feed-requires : goal.line_feed-requires
line_feed-requires g c = (search rules, grind (arith, common_steps, digits_most c.args.n))
