-- `cap` meets its contract.
use native.Mathlib.Omega.{arith}
use Prim.Native.Nat.{ℕ}
use mathlib.Core.Path.{ap, ◌∙◌}
use mathlib.Core.List.{List}
use lib.ListN.{get_or}
use Rattle.closing.specs.Lines.{flat}
use Rattle.book.specs.declared.Book.{Book}
use Rattle.book.specs.declared.Done.{Done}
use Rattle.book.specs.Buying.{offer}
use Rattle.examples.proofs.Same.{none_differs}
use Rattle.examples.proofs.Settled.{example_4}
use Rattle.examples.proofs.played.cap.Goals as goal

pub returns : goal.returns
unfolding flat
returns c = let one = c.offer-taken.ensures.value ∙ ap (λ (b : Book). offer b 0 7 5 107998) c.in_buy_in.ensures.value in
    let two = c.offer-refused.ensures.value ∙ ap (λ (d : Done). offer d.book 0 7 5 107999) one in
    omega (
      arith,
      none_differs (ap (λ (d : Done). d.answer) one ∙ ap (λ (l : List ℕ). get_or l 14 0) example_4) c.compared.ensures.value,
      none_differs (ap (λ (d : Done). d.answer) two ∙ ap (λ (l : List ℕ). get_or l 15 0) example_4) c.compared-2.ensures.value,
    )
