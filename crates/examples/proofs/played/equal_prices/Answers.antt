-- `equal_prices` meets its contract.
use native.Mathlib.Omega.{arith}
use Prim.Native.Nat.{ℕ}
use mathlib.Core.Path.{◌≡◌, ap, ◌∙◌}
use mathlib.Core.List.{List, [], ◌∷◌, ◌++◌}
use lib.ListN.{get_or, replicate}
use Rattle.closing.specs.Lines.{flat}
use Rattle.ledger.specs.Lines.{fewest_words}
use Rattle.book.specs.declared.Book.{Book}
use Rattle.book.specs.declared.Closed.{Closed}
use Rattle.book.specs.Close.{close, close_words}
use Rattle.basics.proofs.Cases.{length_mapped}
use Rattle.journal.specs.Calls.{offer}
use Rattle.journal.specs.Played.{begun}
use Rattle.examples.specs.Played.{opening, book_after, to_buy_in, equal_offers, bought_at}
use Rattle.examples.proofs.Same.{none_differs}
use Rattle.examples.proofs.Settled.{example_14, example_14_line}
use borrow.Author.Rules.{rules}
use Rattle.examples.proofs.played.equal_prices.Goals as goal

-- the book that the Close takes, if each offer comes on the book after the one before it
offered : {base first second : Book} → base ≡ book_after (begun opening).book (to_buy_in 100000) → first ≡ book_after base (offer 0 1 10 101000 ∷ [])
    → second ≡ book_after first (offer 0 2 12 101000 ∷ []) → second ≡ book_after (begun opening).book (to_buy_in 100000 ++ equal_offers)
offered start one two =
    two ∙ ap (λ (b : Book). book_after b (offer 0 2 12 101000 ∷ [])) (one ∙ ap (λ (b : Book). book_after b (offer 0 1 10 101000 ∷ [])) start)

pub bought-requires : goal.bought-requires
bought-requires c =
    let list = c.close-closed.ensures.lines_after ∙ ap (λ (b : Book). close_words b 100000 (replicate fewest_words 0)) (offered c.in_buy_in.ensures.value c.with_offer-first.ensures.value c.with_offer-second.ensures.value) in
    (omega arith, search (length_mapped, rules), ap (bought_at 1) list ∙ example_14_line)

pub returns : goal.returns
unfolding flat
returns c =
    let count = c.close-closed.ensures.value ∙ ap (λ (b : Book). close b 100000 fewest_words) (offered c.in_buy_in.ensures.value c.with_offer-first.ensures.value c.with_offer-second.ensures.value) in
    omega (
      arith,
      none_differs (ap (λ (k : Closed). k.count) count ∙ ap (λ (l : List ℕ). get_or l 17 0) example_14) c.compared.ensures.value,
      c.bought.ensures,
    )
