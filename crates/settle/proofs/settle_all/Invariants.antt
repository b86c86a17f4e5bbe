-- The loop's invariant: `Stands` holds, and the buffers keep their lengths.
use Rattle.std.proofs.Common.{◌≡◌, List, ℕ, length}
use Rattle.book.specs.declared.Book.{Book}
use Rattle.settle.specs.declared.flow.Flow.{Flow}
use Rattle.settle.specs.Turns.{Held, begins}
use Rattle.settle.proofs.Turning.{Stands}
use Rattle.settle.proofs.settle_all.Given as goal

-- what the program holds
abbrev pub held : Book → Flow → List ℕ → List ℕ → List ℕ → List ℕ → ℕ → List ℕ → Held
held book flow part line numbers words places out = record {
  book = book;
  flow = flow;
  part = part;
  line = line;
  numbers = numbers;
  words = words;
  places = places;
  out = out;
}

abbrev pub invariant-loop : goal.invariant-loop
invariant-loop g l = record {
  stands : Stands (begins l.initial.part l.initial.line l.initial.numbers l.initial.words g.row.N) l.counter
      (held l.played.book l.flow l.part l.line l.numbers l.words g.row.N l.out);
  part_same : length l.part ≡ length l.initial.part;
  line_same : length l.line ≡ length l.initial.line;
  numbers_same : length l.numbers ≡ length l.initial.numbers;
  words_same : length l.words ≡ length l.initial.words;
}
