-- `starting_days` meets its contract.
use Prim.Native.Nat.{ℕ}
use native.Mathlib.Omega.{arith}
use mathlib.Core.Path.{ap, ◌∙◌}
use mathlib.Core.List.{List}
use lib.ListN.{get_or, replicate}
use Rattle.ledger.specs.Lines.{fewest_words}
use Rattle.book.specs.declared.Book.{Book}
use Rattle.book.specs.declared.Closed.{Closed}
use Rattle.book.specs.Close.{close, close_words}
use Rattle.examples.proofs.Same.{none_differs}
use Rattle.examples.proofs.Settled.{example_15_words}
use Rattle.examples.proofs.played.starting_days.Goals as goal

pub returns : goal.returns
returns c =
    let friday = c.on_friday.ensures.value in
    let words = c.close-friday.ensures.lines_after ∙ ap (λ (b : Book). close_words b 100000 (replicate fewest_words 0)) friday in
    let monday = ap (λ (r : Closed). r.book) (c.close-friday.ensures.value ∙ ap (λ (b : Book). close b 100000 fewest_words) friday) in
    let closed = c.close-closed.ensures.value ∙ ap (λ (b : Book). close b 100000 fewest_words) monday in
    let later = c.close-closed.ensures.lines_after ∙ ap (λ (b : Book). close_words b 100000 (replicate fewest_words 0)) monday in
    omega (
      arith,
      none_differs (ap (λ (l : List ℕ). get_or l 3 0) words ∙ example_15_words.0) c.compared.ensures.value,
      none_differs (ap (λ (r : Closed). r.count) closed ∙ example_15_words.1) c.compared-2.ensures.value,
      none_differs (ap (λ (l : List ℕ). get_or l 3 0) later ∙ example_15_words.2) c.compared-3.ensures.value,
    )
