-- F7 and F8, Rates: refusal 26 of Close cannot bring a book to a halt. If no row has started, a Rate for today with a
-- rate up to 100 is accepted, and once a row has started a Close is not refused by 26.
use Prim.Native.Nat.{ℕ, ◌≤◌, ◌<◌}
use native.Mathlib.Omega.{arith}
use mathlib.Core.Path.{◌≡◌, sym, ap, ◌∙◌}
use mathlib.Core.Bool.{true, false}
use borrow.Author.Tests.{le-leb}
use Rattle.basics.specs.Lists.{Every}
use Rattle.basics.proofs.Refusals.{done_by, never_given}
use Rattle.amounts.specs.Amounts.{most_rate}
use Rattle.rates.specs.Rows.{most_rows, row_of}
use Rattle.rates.specs.Force.{has_started, is_unset}
use Rattle.rates.proofs.Keeping.{unstarted_few, entered_started}
use Rattle.refusals.specs.Calls.{close_refusals_in, close_refusals}
use Rattle.refusals.proofs.Rating.{rate_given, today_taken}
use Rattle.book.specs.declared.Book.{Book}
use Rattle.book.specs.declared.Done.{Done}
use Rattle.book.specs.Book.{today_of, Valid}
use Rattle.book.specs.Instructing.{done_refused}
use Rattle.book.specs.Rating.{rate_answer, rate_done, rated}
use Rattle.book.specs.Close.{next_day, force_of, close}
use Rattle.book.proofs.Refused.{close_refuses}

-- F8, Rates: a Close is not refused by 26 if a row has started
pub close_started : (b : Book) → is_unset (force_of b) ≡ false → (price words : ℕ) → (close b price words).answer ≡ 26 → ⊥
unfolding close_refusals close_refusals_in
close_started b set price words =
    never_given (close_refusals price words (next_day b) (force_of b)) (close b price words).answer 26 (close_refuses b price words) (λ z. absurd (omega arith))
    (Every.also (λ e. absurd (omega (arith, e))) (Every.also (λ e. absurd (omega (arith, e))) (Every.also (λ e. absurd (omega (arith, e))) (Every.also (λ e. set) Every.nobody))))

module _ (b : Book) (v : Valid b) (none : is_unset (force_of b) ≡ true) (rate : ℕ) (most : rate ≤ most_rate) where
  taken : rate_answer b (today_of b) rate ≡ 0
  taken = today_taken (today_of b) b.rates v.rates v.day.today_most rate most none

  done : rate_done b (today_of b) rate ≡ rated b (today_of b) rate
  unfolding rated
  done = done_by _ (rate_done b (today_of b) rate) (done_refused b) taken

  started : is_unset (force_of (rate_done b (today_of b) rate).book) ≡ false
  unfolding has_started
  started =
      entered_started (today_of b) b.rates v.rates (row_of (today_of b) rate) (rate_given (today_of b) b.rates (today_of b) rate taken).room
      (le-leb (today_of b).0 (today_of b).0 (omega arith))

-- F7, Rates: if no row has started, at most 15 are held
pub few_held : (b : Book) → Valid b → is_unset (force_of b) ≡ true → b.rates.count < most_rows
few_held b v none = unstarted_few (today_of b) b.rates v.rates none

-- F7, Rates: if no row has started, a Rate for today with a rate up to 100 is accepted
pub rate_taken : (b : Book) → Valid b → is_unset (force_of b) ≡ true → (rate : ℕ) → rate ≤ most_rate → (rated b (today_of b) rate).answer ≡ 0
rate_taken b v none rate most = ap (λ (r : Done). r.answer) (sym (done b v none rate most))

-- F7, Rates: a Close after such a Rate is not refused by 26
pub rate_used : (b : Book) → Valid b → is_unset (force_of b) ≡ true → (rate : ℕ) → rate ≤ most_rate →
    (price words : ℕ) → (close (rated b (today_of b) rate).book price words).answer ≡ 26 → ⊥
rate_used b v none rate most =
    close_started (rated b (today_of b) rate).book (ap (λ (r : Done). is_unset (force_of r.book)) (sym (done b v none rate most)) ∙ started b v none rate most)
