-- `read_numbers` meets its contract. The loop's invariant is `Collected`: the numbers so far stand in the first places,
-- and with those of the other words they are all the numbers.
use Rattle.std.proofs.Common.{◌≡◌, length}
use Rattle.reading.specs.Words.{words_of}
use Rattle.reading.proofs.Collecting.{Collected}
use Rattle.reading.proofs.read_numbers.Given as goal

abbrev pub invariant-loop-word : goal.invariant-loop-word
invariant-loop-word l = (l.count ≡ length l.yielded) × Collected (words_of l.line) l.fn.numbers l.numbers l.count
