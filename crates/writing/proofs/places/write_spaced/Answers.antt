-- After the space there is room for the number.
use Rattle.std.proofs.Common.{arith}
use Rattle.writing.proofs.Writing.{wrote_then, wrote_length}
use Rattle.writing.proofs.places.write_spaced.Goals as goal

pub write_number-requires : goal.write_number-requires
write_number-requires c =
    let wrote = c.write_byte-next.ensures in
    omega (arith, wrote.place, wrote_length wrote)

pub returns : goal.returns
returns c = wrote_then c.write_byte-next.ensures c.write_number.ensures
