-- The machine computes how far the number is from zero, and its digits leave room for the sign.
use Rattle.std.proofs.Common.{arith, rules}
use Rattle.std.proofs.lemmas.Grind.{common_steps}
use Rattle.writing.proofs.Signed.{size_most, text_negative, same_most, text_same}
use Rattle.writing.proofs.Output.signed.Goals as goal

pub digits-requires : goal.digits-requires
digits-requires g c = (search rules, grind (arith, common_steps, size_most c.args.z c.ranges.z c.if-z-lt0.true))

pub returns-then-z-lt0 : goal.returns-then-z-lt0
returns-then-z-lt0 g c = rw (text_negative c.args.z c.ranges.z c.if-z-lt0.true) (grind (arith, common_steps))

pub digits-requires-2 : goal.digits-requires-2
digits-requires-2 g c = (search rules, omega (arith, same_most c.args.z c.ranges.z c.if-z-lt0.false))

pub returns : goal.returns
returns g c = rw (text_same c.args.z c.ranges.z c.if-z-lt0.false) c.digits-2.ensures
