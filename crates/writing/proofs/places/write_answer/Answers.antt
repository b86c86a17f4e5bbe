-- After the numbers there is room for a line feed.
use Rattle.std.proofs.Common.{arith}
use Rattle.writing.specs.Answers.{answer_of}
use Rattle.writing.proofs.Writing.{wrote_then, wrote_length, text_most}
use Rattle.writing.proofs.places.write_answer.Goals as goal

pub write_byte-requires : goal.write_byte-requires
write_byte-requires c =
    let wrote = c.write_numbers-end.ensures in
    omega (arith, wrote.place, wrote_length wrote, text_most c.args.numbers.now, c.requires)

pub returns : goal.returns
unfolding answer_of
returns c = wrote_then c.write_numbers-end.ensures c.write_byte.ensures
