-- There is room for one more number.
use Rattle.std.proofs.Common.{arith}
use Rattle.writing.specs.Words.{spaced}
use Rattle.writing.proofs.Writing.{wrote_none, further_more, further_room}
use Rattle.writing.proofs.places.write_further.Goals as goal

pub loop-n-init : goal.loop-n-init
unfolding spaced
loop-n-init c = wrote_none _ _

pub write_spaced-next-requires : goal.write_spaced-next-requires
write_spaced-next-requires c =
    further_room c.args.numbers.now _ _ _ c.loop-n.n-index _ (omega arith) c.requires c.loop-n.invariant

pub loop-n-preserved : goal.loop-n-preserved
loop-n-preserved c =
    further_more c.args.numbers.now _ _ _ _ c.loop-n.n-index _ _ (omega arith) c.loop-n.invariant
    c.write_spaced-next.ensures
