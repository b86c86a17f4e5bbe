-- `auction` meets its contract.
use native.Mathlib.Omega.{arith}
use Prim.Native.Nat.{ℕ}
use mathlib.Core.Path.{◌≡◌, ap, ◌∙◌}
use mathlib.Core.List.{List, [], ◌∷◌, ◌++◌}
use lib.ListN.{get_or, replicate}
use Rattle.closing.specs.Lines.{flat}
use Rattle.ledger.specs.Lines.{fewest_words}
use Rattle.book.specs.declared.Book.{Book}
use Rattle.book.specs.declared.Closed.{Closed}
use Rattle.book.specs.Close.{close, close_words}
use Rattle.basics.proofs.Cases.{length_mapped}
use Rattle.journal.specs.Calls.{offer}
use Rattle.journal.specs.Played.{begun}
use Rattle.examples.specs.Played.{opening, book_after, to_buy_in, auction_offers, bought_at}
use Rattle.examples.proofs.Same.{none_differs}
use Rattle.examples.proofs.Settled.{list_after, example_10, example_10_lines}
use borrow.Author.Rules.{rules}
use Rattle.examples.proofs.played.auction.Goals as goal

-- the book that the Close takes, if each offer comes on the book after the one before it
offered : {base first second third : Book} → base ≡ book_after (begun opening).book (to_buy_in 100000) → first ≡ book_after base (offer 0 1 7 101000 ∷ [])
    → second ≡ book_after first (offer 0 2 5 100500 ∷ []) → third ≡ book_after second (offer 0 3 7 101000 ∷ [])
    → third ≡ book_after (begun opening).book (to_buy_in 100000 ++ auction_offers)
offered start one two three =
    three
    ∙ ap (λ (b : Book). book_after b (offer 0 3 7 101000 ∷ []))
    (two ∙ ap (λ (b : Book). book_after b (offer 0 2 5 100500 ∷ [])) (one ∙ ap (λ (b : Book). book_after b (offer 0 1 7 101000 ∷ [])) start))

-- the list of the Close on that book, as it ends
listed : {lines : List ℕ} {third : Book} → lines ≡ close_words third 100000 (replicate fewest_words 0)
    → third ≡ book_after (begun opening).book (to_buy_in 100000 ++ auction_offers) → lines ≡ list_after auction_offers
listed after e = after ∙ ap (λ (b : Book). close_words b 100000 (replicate fewest_words 0)) e

pub bought-requires : goal.bought-requires
bought-requires c =
    let book = offered c.in_buy_in.ensures.value c.with_offer-first.ensures.value c.with_offer-second.ensures.value c.with_offer-third.ensures.value in
    (omega arith, search (length_mapped, rules), ap (bought_at 1) (listed c.close-closed.ensures.lines_after book) ∙ example_10_lines.0)

pub bought-requires-2 : goal.bought-requires-2
bought-requires-2 c =
    let book = offered c.in_buy_in.ensures.value c.with_offer-first.ensures.value c.with_offer-second.ensures.value c.with_offer-third.ensures.value in
    (omega arith, search (length_mapped, rules), ap (bought_at 2) (listed c.close-closed.ensures.lines_after book) ∙ example_10_lines.1)

pub returns : goal.returns
unfolding flat
returns c =
    let book = offered c.in_buy_in.ensures.value c.with_offer-first.ensures.value c.with_offer-second.ensures.value c.with_offer-third.ensures.value in
    let count = c.close-closed.ensures.value ∙ ap (λ (b : Book). close b 100000 fewest_words) book in
    omega (
      arith,
      none_differs (ap (λ (k : Closed). k.count) count ∙ ap (λ (l : List ℕ). get_or l 18 0) example_10) c.compared.ensures.value,
      c.bought.ensures,
      c.bought-2.ensures,
    )
