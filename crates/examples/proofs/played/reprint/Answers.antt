-- `reprint` meets its contract.
use native.Mathlib.Omega.{arith}
use Prim.Native.Nat.{ℕ}
use mathlib.Core.Path.{ap, ◌∙◌}
use mathlib.Core.List.{List, ◌∷◌}
use lib.ListN.{get_or, replicate}
use Rattle.ledger.specs.Lines.{fewest_words}
use Rattle.book.specs.declared.Book.{Book}
use Rattle.book.specs.declared.Done.{Done}
use Rattle.book.specs.declared.Closed.{Closed}
use Rattle.book.specs.Again.{again, again_words}
use Rattle.book.specs.Month.{month}
use Rattle.examples.proofs.Same.{none_differs}
use Rattle.examples.proofs.Settled.{example_11_words}
use Rattle.examples.proofs.played.reprint.Goals as goal

-- what the Month of the example collects
abbrev collected : List ℕ
collected = 0 ∷ 0 ∷ 0 ∷ 100 ∷ replicate 28 0

pub returns : goal.returns
returns c =
    let book = ap (λ (d : Done). d.book) (c.month-paid.ensures.value ∙ ap (λ (b : Book). month b collected 32) c.closed_once.ensures.value) in
    let shown = c.again-shown.ensures.value ∙ ap (λ (b : Book). again b fewest_words) book in
    let words = c.again-shown.ensures.lines_after ∙ ap (λ (b : Book). again_words b (replicate fewest_words 0)) book in
    omega (
      arith,
      none_differs (ap (λ (r : Closed). r.count) shown ∙ ap (λ (l : List ℕ). get_or l 0 0) example_11_words) c.compared.ensures.value,
      none_differs (ap (λ (l : List ℕ). get_or l 3 0) words ∙ ap (λ (l : List ℕ). get_or l 1 0) example_11_words) c.compared-2.ensures.value,
      none_differs (ap (λ (l : List ℕ). get_or l 9 0) words ∙ ap (λ (l : List ℕ). get_or l 2 0) example_11_words) c.compared-3.ensures.value,
    )
