-- After the numbers there is room for a line feed.
use Rattle.std.proofs.Common.{arith, rules}
use Rattle.std.proofs.lemmas.Grind.{common_steps}
use Rattle.writing.proofs.Writing.{text_most}
use Rattle.writing.proofs.Output.answer.Goals as goal

pub line_feed-requires : goal.line_feed-requires
line_feed-requires g c = (search rules, grind (arith, common_steps, text_most c.args.numbers.now))
