-- After the label and the number there is room for a line feed.
use Rattle.std.proofs.Common.{arith}
use Rattle.writing.specs.Answers.{labelled}
use Rattle.writing.proofs.Digits.{digits_most}
use Rattle.writing.proofs.Writing.{wrote_then, wrote_length}
use Rattle.writing.proofs.places.write_labelled.Goals as goal

pub write_number-end-requires : goal.write_number-end-requires
write_number-end-requires c =
    let wrote = c.write_bytes-next.ensures in
    omega (arith, wrote.place, wrote_length wrote)

pub write_byte-requires : goal.write_byte-requires
write_byte-requires c =
    let label = c.write_bytes-next.ensures in
    let number = c.write_number-end.ensures in
    omega (arith, label.place, wrote_length label, number.place, wrote_length number, digits_most c.args.n)

pub returns : goal.returns
unfolding labelled
returns c = wrote_then (wrote_then c.write_bytes-next.ensures c.write_number-end.ensures) c.write_byte.ensures
