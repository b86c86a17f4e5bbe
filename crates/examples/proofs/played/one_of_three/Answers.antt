-- `one_of_three` meets its contract.
use native.Mathlib.Omega.{arith}
use Prim.Native.Nat.{ℕ}
use mathlib.Core.Path.{ap, ◌∙◌}
use mathlib.Core.List.{List}
use lib.ListN.{get_or}
use Rattle.closing.specs.Lines.{flat}
use Rattle.book.specs.declared.Book.{Book}
use Rattle.calendar.specs.Closed.{day}
use Rattle.book.specs.declared.Entered.{Entered}
use Rattle.book.specs.Instructing.{enter}
use Rattle.examples.proofs.Same.{none_differs}
use Rattle.examples.proofs.played.one_of_three.Goals as goal

pub returns : goal.returns
unfolding flat
returns c = let start = c.args in let row = c.requires in
    let one = c.enter-waits.ensures.value ∙ ap (λ (b : Book). enter b 0 1 0 10 start.delivering (day 2)) c.opened.ensures.value in
    let two = c.enter-alone.ensures.value ∙ ap (λ (e : Entered). enter e.book 1 0 1 10 start.above (day 2)) one in
    let three = c.enter-refused.ensures.value ∙ ap (λ (e : Entered). enter e.book 1 0 1 10 0 (day 2)) two in
    let four = c.enter-matched.ensures.value ∙ ap (λ (e : Entered). enter e.book 1 0 1 10 start.most (day 2)) three in
    omega (
      arith,
      none_differs (ap (λ (e : Entered). e.answer) two ∙ ap (λ (l : List ℕ). get_or l 1 0) row) c.compared.ensures.value,
      none_differs (ap (λ (e : Entered). e.obligation) two ∙ ap (λ (l : List ℕ). get_or l 3 0) row) c.compared-2.ensures.value,
      none_differs (ap (λ (e : Entered). e.answer) three ∙ ap (λ (l : List ℕ). get_or l 4 0) row) c.compared-3.ensures.value,
      none_differs (ap (λ (e : Entered). e.obligation) four ∙ ap (λ (l : List ℕ). get_or l 9 0) row) c.compared-4.ensures.value,
    )
