-- The bytes stand between what was ahead of the place and what was behind them.
use Rattle.std.proofs.Common.{◌≡◌, ◌+◌, ◌-◌, length, arith}
use Rattle.writing.proofs.Writing.{wrote_over}
use Rattle.writing.proofs.places.write_bytes.Goals as goal

pub returns : goal.returns
returns c =
    let all : c.args.at + length c.args.bytes.now - c.args.at ≡ length c.args.bytes.now = omega arith in
    rw (c.copy_from_slice.ensures.after, all) (wrote_over c.args.bytes.now c.args.out.now c.args.at c.requires)
