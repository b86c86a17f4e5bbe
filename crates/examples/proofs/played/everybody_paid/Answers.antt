-- `everybody_paid` meets its contract.
use Prim.Native.Nat.{ℕ}
use native.Mathlib.Omega.{arith}
use mathlib.Core.Path.{◌≡◌, sym, ap, ◌∙◌}
use mathlib.Core.List.{List, [], ◌∷◌}
use lib.ListN.{get_or, replicate}
use Rattle.book.specs.declared.Book.{Book}
use Rattle.book.specs.Month.{month_words}
use Rattle.examples.proofs.Same.{none_differs}
use Rattle.journal.specs.Calls.{month}
use Rattle.examples.specs.Played.{two_sales, month_played}
use Rattle.examples.specs.Table.{paid_in_full}
use Rattle.examples.proofs.Settled.{closed_once, taken_place, example_12}
use Rattle.examples.proofs.played.everybody_paid.Goals as goal

-- what a Month pays on a book, if it is given these amounts
abbrev paid_on : List ℕ → Book → List ℕ
paid_on amounts b = month_words b amounts (replicate 32 7)

-- what it pays to the first two members on the book of the example, by the journal that shows it
first_two : (amounts : List ℕ) → month_played two_sales (month amounts (replicate 32 7)) ≡ paid_in_full →
    (get_or (paid_on amounts closed_once) 0 0 ≡ 200) × (get_or (paid_on amounts closed_once) 1 0 ≡ 100)
first_two amounts e =
    let words = paid_on amounts closed_once in (
      sym (taken_place 3 words 0 (omega arith)) ∙ ap (λ (l : List ℕ). get_or l 7 0) e,
      sym (taken_place 3 words 1 (omega arith)) ∙ ap (λ (l : List ℕ). get_or l 8 0) e,
    )

-- all that member 3 owes
abbrev collected : List ℕ
collected = 0 ∷ 0 ∷ 0 ∷ 300 ∷ replicate 28 0

pub returns : goal.returns
returns c =
    let typed = c.month.ensures.payouts_after ∙ ap (paid_on collected) c.closed_once.ensures.value in
    let empty = c.month-2.ensures.payouts_after ∙ ap (paid_on []) c.closed_once-2.ensures.value in
    let all = first_two collected example_12.0 in
    let none = first_two [] example_12.1 in
    omega (
      arith,
      none_differs (ap (λ (l : List ℕ). get_or l 0 0) typed ∙ all.0) c.compared.ensures.value,
      none_differs (ap (λ (l : List ℕ). get_or l 0 0) empty ∙ none.0) c.compared-2.ensures.value,
      none_differs (ap (λ (l : List ℕ). get_or l 1 0) typed ∙ all.1) c.compared-3.ensures.value,
      none_differs (ap (λ (l : List ℕ). get_or l 1 0) empty ∙ none.1) c.compared-4.ensures.value,
    )
