-- After the answer number there is room for a space, signed cents and a line feed.
use Rattle.std.proofs.Common.{arith, rules}
use Rattle.std.proofs.lemmas.Grind.{common_steps}
use Rattle.writing.proofs.Digits.{digits_most, signed_most}
use Rattle.answers.proofs.tell_balance.Goals as goal

pub byte-requires : goal.byte-requires
byte-requires g c = (search rules, grind (arith, common_steps, digits_most c.args.answer))

pub signed-requires : goal.signed-requires
signed-requires g c = (search rules, grind (arith, common_steps, digits_most c.args.answer))

pub line_feed-requires : goal.line_feed-requires
line_feed-requires g c =
    (search rules, grind (arith, common_steps, digits_most c.args.answer, signed_most c.args.cents))
