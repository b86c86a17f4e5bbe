-- Every accepted Month pays out just what it collected, each creditor its share. A Month that is given what each member
-- owes ends as an empty one does.
use Rattle.std.specs.Prelude.{Some}
use Prim.Native.Nat.{ℕ}
use mathlib.Core.Path.{◌≡◌, refl, sym, ap, ◌∙◌}
use mathlib.Core.List.{List, map}
use lib.IntN.{ℤ, pos}
use lib.ListN.{length, length-map}
use Rattle.basics.specs.Lists.{sum, table}
use Rattle.basics.proofs.Tables.{table_length, table_at}
use Rattle.basics.proofs.Refusals.{passed}
use Rattle.netting.specs.Accounts.{claim, owed, claims, debts}
use Rattle.netting.specs.Shares.{floor_share}
use Rattle.netting.proofs.Debts.{of_accounts}
use Rattle.netting.proofs.Shared.{shares_total, shares_floor, shares_most}
use Rattle.payments.specs.Month.{bad_lists, over_collected, amounts_paid, month_refusals, payouts_of}
use Rattle.payments.proofs.Collected.{good_lists, collected_shareable}
use Rattle.payments.proofs.Everybody.{empty_pays}
use Rattle.book.specs.declared.Book.{Book}
use Rattle.book.specs.Month.{month_answer}
use Rattle.book.proofs.Paid.{accounts_bounded}
use Rattle.journal.specs.Calls.{Opening, Event}
use Rattle.journal.specs.Facts.{facts}
use Rattle.journal.specs.Sums.{account_in, claims_in, debts_in}
use Rattle.journal.specs.Promise.{MonthPays}
use Rattle.journal.proofs.Moves.{Agrees}
use Rattle.journal.proofs.Does.{Does}

module _ (o : Opening) (b : Book) (es : List Event) (g : Agrees o b es) where
  -- the accounts of the events are those of the book, and so is what f gives for each of them
  numbers_agree : (f : ℤ → ℕ) → f (pos 0) ≡ 0 → table 32 (λ m. f (account_in m es)) ≡ map f b.ledger.accounts
  numbers_agree f z =
      of_accounts f z b.ledger.accounts (table 32 (λ m. f (account_in m es))) g.valid.ledger.accounts.size (table_length 32 (λ m. f (account_in m es)))
      (λ m h. table_at 32 (λ k. f (account_in k es)) m 0 h ∙ ap f (sym (g.accounts m)))

  claims_agree : claims_in es ≡ claims b.ledger.accounts
  claims_agree = numbers_agree claim refl

  pub debts_agree : debts_in es ≡ debts b.ledger.accounts
  debts_agree = numbers_agree owed refl

-- what an accepted Month pays out
month_shares : (o : Opening) (b : Book) (es : List Event) → Agrees o b es → (cs : List ℕ) (places : ℕ) → month_answer b cs places ≡ 0 →
    MonthPays cs (payouts_of b.ledger.accounts cs) es
unfolding month_refusals floor_share
month_shares o b es g cs places e =
    let a = b.ledger.accounts in
    let v = g.valid in
    let p5 = passed 5 (bad_lists (length cs) places) _ e refl in
    let p19 = passed 19 (over_collected a cs) _ p5.1 refl in
    let size = v.ledger.accounts.size in
    let even = v.ledger.accounts.even in
    let fit = collected_shareable a cs size (good_lists (length cs) places p5.0).0 even (accounts_bounded b v) p19.0 in
    let members : length (claims a) ≡ 32 = length-map a claim ∙ size in
    let c = sum (amounts_paid (debts a) cs) in
    record {
      all = rw (debts_agree o b es g) (shares_total c (claims a) members fit.covered);
      each = λ m h some. rw (claims_agree o b es g, debts_agree o b es g) (record {
        proportional = shares_floor c (claims a) members fit.covered m h;
        most = shares_most c (claims a) members fit.covered m h;
      });
      in_full = λ none. rw (none, claims_agree o b es g) (empty_pays a size even);
    }

module _ (o : Opening) (b after : Book) (es : List Event) (e : Event) (g : Agrees o b es) (d : Does b after (facts e) e.words) where
  pub month_pays : (cs : List ℕ) → (facts e).collects ≡ Some cs → MonthPays cs e.words es
  month_pays cs c =
      let p = d.pays cs c in
      rw p.payouts (month_shares o b es g cs p.places p.accepted)
