-- What a Close does to the rows of a book: `rows_closed` at the end.
use Prim.Native.Nat.{ℕ, ◌≤◌, ◌<◌}
use native.Mathlib.Omega.{arith}
use mathlib.Core.Path.{◌≡◌, refl, ap, ap₂, ◌∙◌}
use mathlib.Core.Bool.{Bool, true, false, ◌&&◌}
use mathlib.Core.List.{List}
use lib.Dec.{eqb, leb}
use borrow.Author.Tests.{lt-ltb, leb-false, ne_eqb}
use Rattle.basics.specs.Choice.{pick}
use Rattle.basics.proofs.Cases.{pick_case}
use Rattle.calendar.specs.declared.Day.{Day}
use Rattle.calendar.specs.Closed.{listed_days}
use Rattle.calendar.proofs.Ages.{age_early}
use Rattle.offers.specs.declared.Offer.{Offer}
use Rattle.offers.specs.Held.{listed_offers}
use Rattle.ledger.specs.declared.Deal.{Deal}
use Rattle.ledger.specs.declared.Stage.{Stage}
use Rattle.ledger.specs.declared.Wishes.{Wishes}
use Rattle.ledger.specs.declared.Obligation.{Obligation}
use Rattle.ledger.specs.declared.Ledger.{Ledger}
use Rattle.ledger.specs.Parts.{part_of}
use Rattle.ledger.specs.Obligations.{age_by, with_grace_price, is_due}
use Rattle.ledger.specs.Ledger.{obligation_at}
use Rattle.closing.specs.declared.DayEnd.{DayEnd}
use Rattle.closing.specs.Lines.{Made, nothing}
use Rattle.closing.specs.Stages.{priced}
use Rattle.closing.specs.Close.{stages, closed_one, close_lines}
use Rattle.closing.proofs.Parts.{stages_beside}
use Rattle.book.specs.declared.Book.{Book}
use Rattle.book.specs.Book.{Valid}
use Rattle.book.specs.Close.{closed_book}
use Rattle.book.proofs.Outcomes.{Ends}
use Rattle.book.proofs.Ended.{after_closed, after_goes, ends_age}
use Rattle.journal.specs.Facts.{Facts, only_ends}
use Rattle.journal.proofs.Rows.{wish_of, at_grace, Untold, RowDoes, Rows, rows_changed}
use Rattle.journal.proofs.Reported.{closed_moved, reported_one, reported_none}

-- ---- one obligation
module _ (d : DayEnd) (offers : List Offer) (n : ℕ) (o : Obligation) where
  abbrev age : ℕ
  age = age_by d.setup d.today o

  -- whether this is the Close at age = grace
  abbrev grace : Bool
  grace = eqb age d.setup.terms.grace.0

  -- no part of a Close changes a wish
  closed_wish : (m : ℕ) → wish_of m (closed_one d offers n o).obligation ≡ wish_of m o
  unfolding closed_one priced
  closed_wish m =
      let p = stages_beside d age offers n o in
      pick_case (λ (x : Made). wish_of m x.obligation ≡ wish_of m o) (is_due d.today o) _ _
      (λ e.
      ap₂ (λ (x : Deal) (w : Wishes). pick (eqb x.seller m) w.seller (pick (eqb x.buyer m) w.buyer false)) p.deal p.wishes
      ∙ pick_case (λ (x : Obligation). wish_of m x ≡ wish_of m o) grace _ _ (λ f. refl) (λ f. refl))
      (λ e. refl)

  priced_price : (priced d.setup.terms age d.price o).stage.grace_price ≡ pick grace d.price o.stage.grace_price
  unfolding priced
  priced_price = by grace
    where
      by : (t : Bool) → (pick t (with_grace_price d.price o) o).stage.grace_price ≡ pick t d.price o.stage.grace_price
      by true = refl
      by false = refl

  -- the price that is kept where something is outstanding: a Close before J does not come at age = grace
  closed_price : 0 < o.parts.outstanding → 0 < d.setup.terms.grace.0 → (closed_one d offers n o).obligation.stage.grace_price ≡ pick grace d.price o.stage.grace_price
  unfolding closed_one is_due
  closed_price some early = rw (lt-ltb 0 o.parts.outstanding some) (by (leb o.deal.day.0 d.today.0) refl)
    where
      by : (t : Bool) → leb o.deal.day.0 d.today.0 ≡ t →
          (pick (t && true) (stages d age offers n o) (nothing o)).obligation.stage.grace_price ≡ pick grace d.price o.stage.grace_price
      by true e = ap (λ (s : Stage). s.grace_price) (stages_beside d age offers n o).stage ∙ priced_price
      by false e =
          let young = age_early (listed_days d.setup.closed_days) o.deal.day d.today (omega (arith, leb-false o.deal.day.0 d.today.0 e)) in
          rw (ne_eqb age d.setup.terms.grace.0 (λ z. omega arith))

-- ---- all obligations
module _ (b : Book) (v : Valid b) (d : DayEnd) (e : Ends b d) (next : Day) where
  abbrev l : Ledger
  l = b.ledger

  abbrev xs : List Offer
  xs = listed_offers l.offers

  abbrev after : Book
  after = closed_book b d next

  abbrev told : Facts
  told = only_ends (record { price = d.price; lines = close_lines d l })

  -- the Close and the book have the same age and the same grace
  grace_same : (n : ℕ) → grace d xs n (obligation_at l n) ≡ at_grace b (obligation_at l n)
  grace_same n = rw (ends_age b v d e (obligation_at l n), e.setup)

  row_closed : (n : ℕ) → n < l.count → RowDoes b told n (obligation_at l n) (obligation_at after.ledger n)
  row_closed n h =
      let o = obligation_at l n in
      let later = (after_goes b v d e n h).later in
      let closed = after_closed b v d e n h in
      record {
        later = later;
        instructed = refl;
        shift = λ k.
            let moved = ap (λ (x : Obligation). part_of k x.parts) closed in
            omega (arith, moved, closed_moved d xs n o k, reported_one d xs l.obligations l.count k n h);
        price = λ left.
            ap (λ (x : Obligation). x.stage.grace_price) closed
            ∙ closed_price d xs n o (omega (arith, left, later.less)) (omega (arith, e.valid.setup.terms.notice_before))
            ∙ ap (λ (t : Bool). pick t d.price o.stage.grace_price) (grace_same n);
        wish = λ m. ap (wish_of m) closed ∙ closed_wish d xs n o m;
      }

  row_untold : (n : ℕ) → l.count ≤ n → Untold told n
  row_untold n h = record {
    instructed = refl;
    moves = λ k. omega (arith, reported_none d xs l.obligations l.count k n h);
    wishes = λ m. refl;
  }

  pub rows_closed : Rows b after told
  rows_closed = rows_changed b after told refl row_closed row_untold
