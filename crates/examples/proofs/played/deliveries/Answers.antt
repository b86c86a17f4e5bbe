-- `deliveries` meets its contract.
use native.Mathlib.Omega.{arith}
use Prim.Native.Nat.{ℕ}
use mathlib.Core.Path.{ap, ◌∙◌}
use mathlib.Core.List.{List}
use lib.ListN.{get_or}
use Rattle.closing.specs.Lines.{flat}
use Rattle.book.specs.declared.Book.{Book}
use Rattle.book.specs.declared.Delivered.{Delivered}
use Rattle.book.specs.Instructing.{deliver}
use Rattle.examples.specs.Played.{book_after, sale}
use Rattle.examples.proofs.Same.{none_differs}
use Rattle.examples.proofs.Settled.{example_7}
use Rattle.examples.proofs.played.deliveries.Goals as goal

pub returns : goal.returns
unfolding flat
returns c = let one = c.deliver-first.ensures.value ∙ ap (λ (b : Book). deliver b 0 1) (c.with_sale-sold.ensures.value ∙ ap (λ (b : Book). book_after b (sale 0 1 3 1000)) c.opened.ensures.value) in
    let two = c.deliver-second.ensures.value ∙ ap (λ (d : Delivered). deliver d.book 0 1) one in
    let three = c.deliver-third.ensures.value ∙ ap (λ (d : Delivered). deliver d.book 0 1) two in
    omega (
      arith,
      none_differs (ap (λ (d : Delivered). d.cash) one ∙ ap (λ (l : List ℕ). get_or l 3 0) example_7) c.compared.ensures.value,
      none_differs (ap (λ (d : Delivered). d.cash) two ∙ ap (λ (l : List ℕ). get_or l 5 0) example_7) c.compared-2.ensures.value,
      none_differs (ap (λ (d : Delivered). d.cash) three ∙ ap (λ (l : List ℕ). get_or l 7 0) example_7) c.compared-3.ensures.value,
    )
