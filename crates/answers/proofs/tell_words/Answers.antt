-- After the numbers there is room for the words, and after these for a line feed.
use Rattle.std.proofs.Common.{arith, rules}
use Rattle.std.proofs.lemmas.Grind.{common_steps}
use Rattle.writing.proofs.Writing.{text_most, spaced_most}
use Rattle.answers.proofs.tell_words.Goals as goal

pub further-requires : goal.further-requires
further-requires g c = (search rules, grind (arith, common_steps, text_most c.args.shown.now))

pub line_feed-requires : goal.line_feed-requires
line_feed-requires g c =
    (search rules, grind (arith, common_steps, text_most c.args.shown.now, spaced_most c.args.words.now))
