-- After the first number there is room for the others.
use Rattle.std.proofs.Common.{arith}
use Rattle.writing.specs.Words.{joined}
use Rattle.writing.specs.Answers.{text_of}
use Rattle.writing.proofs.Digits.{digits_most}
use Rattle.writing.proofs.Writing.{numbers_none, wrote_then, wrote_length}
use Rattle.writing.proofs.places.write_numbers.Goals as goal

pub write_further-requires : goal.write_further-requires
write_further-requires c =
    let wrote = c.write_number-next.ensures in
    omega (arith, wrote.place, wrote_length wrote, digits_most c.in-Some.first.now, c.in-Some.ensures.cases.1)

pub returns-in-Some : goal.returns-in-Some
unfolding text_of joined
returns-in-Some c = rw c.in-Some.ensures.cases.0 (wrote_then c.write_number-next.ensures c.write_further.ensures)

pub returns-in-None : goal.returns-in-None
returns-in-None c = numbers_none _ _ _ c.in-None.ensures.cases
