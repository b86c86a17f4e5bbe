-- The machine computes how far the number is from zero, and its digits leave room for the sign.
use Rattle.std.proofs.Common.{arith}
use Rattle.writing.proofs.Signed.{size_most, text_negative, same_most, text_same}
use Rattle.writing.proofs.Writing.{wrote_then, wrote_length}
use Rattle.writing.proofs.places.write_signed.Goals as goal

pub write_digits-requires : goal.write_digits-requires
write_digits-requires c =
    let sign = c.write_byte-next.ensures in
    omega (arith, sign.place, wrote_length sign, size_most c.args.z c.ranges.z c.if-z-lt0.true)

pub returns-then-z-lt0 : goal.returns-then-z-lt0
returns-then-z-lt0 c =
    rw (text_negative c.args.z c.ranges.z c.if-z-lt0.true) (wrote_then c.write_byte-next.ensures c.write_digits.ensures)

pub write_digits-requires-2 : goal.write_digits-requires-2
write_digits-requires-2 c = omega (arith, same_most c.args.z c.ranges.z c.if-z-lt0.false)

pub returns : goal.returns
returns c = rw (text_same c.args.z c.ranges.z c.if-z-lt0.false) c.write_digits-2.ensures
