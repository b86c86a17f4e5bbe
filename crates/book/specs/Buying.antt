-- Buy-in: the call Offer.
use Rattle.std.specs.Prelude.{ℕ, List}
use Rattle.basics.specs.Refusals.{Refusal}
use Rattle.ledger.specs.declared.Obligation.{Obligation}
use Rattle.ledger.specs.Obligations.{age_by}
use Rattle.ledger.specs.Ledger.{fetched, with_offer_for}
use Rattle.book.specs.declared.Book.{Book}
use Rattle.book.specs.declared.Done.{Done}
use Rattle.refusals.specs.Calls.{fetch_refusals, fetch_outcome, offer_refusals_in, offer_refusals_of}
use Rattle.book.specs.Book.{with_ledger, today_of}
use Rattle.book.specs.Instructing.{done_refused}

-- A11, Refusals: the refusals of Offer on the obligation that was found in the book
abbrev pub offer_refusals_for : Book → ℕ → Obligation → List Refusal
offer_refusals_for b price o = offer_refusals_of b.setup.terms (today_of b) (age_by b.setup (today_of b) o) b.ledger.offers.count o price

-- A11, Refusals: all refusals of Offer
unfoldable pub offer_refusals : Book → ℕ → ℕ → ℕ → ℕ → List Refusal
offer_refusals b n supplier q price = fetch_refusals (offer_refusals_in supplier q price) (fetched b.ledger n) (offer_refusals_for b price)

-- B4 and B5, Buy-in: after an Offer that is done, the book holds the offer
abbrev pub offer_done : Book → ℕ → ℕ → ℕ → ℕ → Done
offer_done b n supplier q price = record {
  answer = 0;
  book = with_ledger (with_offer_for (record { obligation = n; supplier = supplier; quantity = q; price = price }) b.ledger) b;
}

-- B4 to B8, Buy-in: what Offer returns
unfoldable pub offer : Book → ℕ → ℕ → ℕ → ℕ → Done
offer b n supplier q price =
    fetch_outcome (offer_refusals_in supplier q price) (fetched b.ledger n) (offer_refusals_for b price)
    (λ o. offer_done b n supplier q price) (done_refused b)
