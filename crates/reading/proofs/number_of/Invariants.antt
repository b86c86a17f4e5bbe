-- `number_of` meets its contract. The loop's invariant is `Read`: the value so far, with what is left of the word, gives
-- the same number as the whole word.
use Rattle.reading.proofs.Reading.{Read}
use Rattle.reading.proofs.number_of.Given as goal

abbrev pub invariant-loop-byte : goal.invariant-loop-byte
invariant-loop-byte l = Read l.word l.value l.byte-index
