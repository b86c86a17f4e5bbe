-- The loop's invariant: the numbers so far stand at the place.
use Rattle.std.proofs.Common.{map, take}
use Rattle.writing.specs.Answers.{Wrote}
use Rattle.writing.specs.Digits.{digits_of}
use Rattle.writing.specs.Words.{spaced}
use Rattle.writing.proofs.places.write_further.Given as goal

abbrev pub invariant-loop-n : goal.invariant-loop-n
invariant-loop-n l = Wrote (spaced (map digits_of (take l.n-index l.numbers))) l.initial.out l.at l.out l.next
