-- What Status, Account and Look show after a list of calls.
use Rattle.std.specs.Prelude.{Some}
use Prim.Native.Nat.{ℕ, ◌<◌}
use native.Mathlib.Omega.{arith}
use mathlib.Core.Path.{◌≡◌, refl, sym, ap, ◌∙◌}
use mathlib.Core.Bool.{true, false≢true}
use mathlib.Core.List.{List, [], ◌∷◌}
use lib.IntN.{pos}
use lib.ListN.{get_or}
use borrow.Author.Tests.{ltb-true, lt-ltb, le-ltb, eqb-true, eq-eqb}
use Rattle.basics.specs.Lists.{table}
use Rattle.basics.specs.Refusals.{refuse, answer}
use Rattle.basics.proofs.Cases.{and_true}
use Rattle.basics.proofs.Tables.{is_table}
use Rattle.basics.proofs.Refusals.{pass, all_passed, done_by, by_number}
use Rattle.calendar.specs.declared.Day.{Day}
use Rattle.netting.specs.Accounts.{balance}
use Rattle.ledger.specs.Ledger.{obligation_at, fetched}
use Rattle.ledger.proofs.Valid.{below_found}
use Rattle.netting.specs.Accounts.{no_member}
use Rattle.refusals.proofs.Named.{found_done, fetch_case}
use Rattle.book.specs.declared.Book.{Book}
use Rattle.book.specs.declared.Shown.{Shown}
use Rattle.book.specs.declared.Balance.{Balance}
use Rattle.book.specs.declared.Looked.{Looked}
use Rattle.book.specs.Showing.{status, account, status_refused, status_done, account_refused, is_late, LooksAt, Looks}
use Rattle.journal.specs.Calls.{Opening, Event}
use Rattle.journal.specs.Facts.{Instructed}
use Rattle.journal.specs.Sums.{instructed_in}
use Rattle.journal.specs.Promise.{StatusShows, AccountShows, IsLate, LateShown, LookShows}
use Rattle.journal.proofs.Rows.{instructed_at}
use Rattle.journal.proofs.Moves.{Agrees, parts_are, sum_is, told_held, outstanding_is}
use Rattle.journal.proofs.Demand3.{StatusCalled, AccountCalled, LookCalled}

module _ (o : Opening) (b : Book) (es : List Event) (g : Agrees o b es) where
  pub status_shows : (n : ℕ) (i : Instructed) → instructed_in n es ≡ Some i → (t : Shown) → t ≡ status b n → StatusShows o es n i t
  unfolding status
  status_shows n i e t q =
      let h = told_held o b es g n i e in
      let p = obligation_at b.ledger n in
      let shown : t ≡ record { answer = 0; quantity = p.deal.quantity; parts = p.parts; book = b } =
      q ∙ sym (found_done [] (λ o. []) (status_done b) (status_refused b) refl all_passed (fetched b.ledger n) p (below_found b.ledger n h.below) all_passed) in
      let qu = ap (λ (d : Instructed). d.quantity) h.same in
      rw shown (record {
        accepted = refl;
        quantity = qu;
        part = λ k. sym (parts_are o b es g n h.below k);
        whole = sym (sum_is o b es g n h.below ∙ qu);
        last_day = λ z. (g.last n z).1;
      })

  pub account_shows : (m : ℕ) → m < 32 → (t : Balance) → t ≡ account b m → AccountShows es m t
  unfolding account
  account_shows m h t q =
      let zero : answer (refuse 1 (no_member m) ∷ []) ≡ 0 = pass 1 [] (le-ltb 31 m (omega arith)) ∙ all_passed in
      let shown : t ≡ record { answer = 0; cents = get_or b.ledger.accounts m (pos 0); book = b } = q ∙ sym (done_by (refuse 1 (no_member m) ∷ []) _ (account_refused b) zero) in
      rw shown (record { accepted = refl; cents = g.accounts m })

  -- the accounts, shown one by one
  pub all_shown : (t : ℕ → Balance) → ((m : ℕ) → m < 32 → t m ≡ account b m) → balance (table 32 (λ m. (t m).cents)) ≡ pos 0
  all_shown t q =
      ap balance
      (sym (is_table 32 (λ m. (t m).cents) b.ledger.accounts (pos 0) g.valid.ledger.accounts.size
      (λ m h. g.accounts m ∙ sym (account_shows m h (t m) (q m h)).cents)))
      ∙ g.valid.ledger.accounts.even

  -- an obligation that is late in the book is late by the events, and the other way round
  late_told : (m n : ℕ) → n < b.ledger.count → is_late b.day.today m (obligation_at b.ledger n) ≡ true →
      (i : Instructed) × (instructed_in n es ≡ Some i) × IsLate o es m n i
  unfolding is_late
  late_told m n h e =
      let p = obligation_at b.ledger n in
      let instructed : instructed_in n es ≡ Some (instructed_at p) = rw (← g.instructed n, lt-ltb n b.ledger.count h) in
      let first = and_true _ _ e in
      let rest = and_true _ _ first.1 in (
        instructed_at p,
        instructed,
        record {
          seller = eqb-true p.deal.seller m first.0;
          past_due = rw g.today at (ltb-true p.deal.day.0 b.day.today.0 rest.0);
          left = omega (arith, outstanding_is o b es g n (instructed_at p) instructed, ltb-true 0 p.parts.outstanding rest.1);
        },
      )

  told_late : (m n : ℕ) (i : Instructed) → instructed_in n es ≡ Some i → IsLate o es m n i → is_late b.day.today m (obligation_at b.ledger n) ≡ true
  unfolding is_late
  told_late m n i e l =
      let h = told_held o b es g n i e in
      let p = obligation_at b.ledger n in
      let seller : p.deal.seller ≡ m = ap (λ (d : Instructed). d.seller) h.same ∙ l.seller in
      let day : p.deal.day.0 < b.day.today.0 =
      omega (arith, l.past_due, ap (λ (d : Day). d.0) g.today, ap (λ (d : Instructed). d.day.0) h.same) in
      let left : 0 < p.parts.outstanding = omega (arith, outstanding_is o b es g n i e, l.left) in
      rw (eq-eqb p.deal.seller m seller, lt-ltb p.deal.day.0 b.day.today.0 day, lt-ltb 0 p.parts.outstanding left)

  late_shown : {m k : ℕ} → LooksAt b m k → LateShown o es m k
  late_shown {m} (LooksAt.none f) = LateShown.none_late (λ n i e l.
      false≢true (sym (f n (told_held o b es g n i e).below) ∙ told_late m n i e l))
  late_shown {m} (LooksAt.some n h e) = let w = late_told m n h e in LateShown.one_late n w.0 w.1 w.2

  pub look_shows : (m : ℕ) → m < 32 → (t : Looked) → Looks b m t → LookShows o es m t
  look_shows m h t l =
      let zero : answer (refuse 1 (no_member m) ∷ []) ≡ 0 = pass 1 [] (le-ltb 31 m (omega arith)) ∙ all_passed in
      record { accepted = l.number ∙ zero; late = late_shown (l.choice zero) }

-- ---- the book that they return is the one that they were given
status_book : (b : Book) (n : ℕ) → (status b n).book ≡ b
unfolding status
status_book b n = fetch_case [] (λ o. []) (status_done b) (status_refused b) (λ (t : Shown). t.book ≡ b) b.ledger n refl (λ k z. refl) (λ h i j. refl)

account_book : (b : Book) (m : ℕ) → (account b m).book ≡ b
unfolding account
account_book b m = by_number (λ (t : Balance). t.book ≡ b) (answer (refuse 1 (no_member m) ∷ [])) _ (account_refused b) (λ z. refl) (λ e. refl)

-- ---- what their contracts tell
pub status_learnt : {b : Book} {n : ℕ} {t : Shown} → StatusCalled b n t → t ≡ status b n
status_learnt (StatusCalled.called x h) = h.0

pub account_learnt : {b : Book} {m : ℕ} {t : Balance} → AccountCalled b m t → t ≡ account b m
account_learnt (AccountCalled.called x h) = h.0

pub look_learnt : {b : Book} {m : ℕ} {t : Looked} → LookCalled b m t → Looks b m t
look_learnt (LookCalled.called x h) = h.0

pub status_returns : {b : Book} {n : ℕ} {t : Shown} → StatusCalled b n t → t.book ≡ b
status_returns {b} {n} c = ap (λ (x : Shown). x.book) (status_learnt c) ∙ status_book b n

pub account_returns : {b : Book} {m : ℕ} {t : Balance} → AccountCalled b m t → t.book ≡ b
account_returns {b} {m} c = ap (λ (x : Balance). x.book) (account_learnt c) ∙ account_book b m

pub look_returns : {b : Book} {m : ℕ} {t : Looked} → LookCalled b m t → t.book ≡ b
look_returns c = (look_learnt c).same
