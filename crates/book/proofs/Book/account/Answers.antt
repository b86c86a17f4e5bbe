-- `account` meets its contract.
use native.Mathlib.Omega.{arith}
use mathlib.Core.Path.{refl, ap, ◌∙◌}
use mathlib.Core.List.{[]}
use lib.IntN.{ℤ, pos}
use lib.ListN.{get_or}
use borrow.Author.Tests.{ltb-false}
use Rattle.basics.proofs.Reasons.{zero_by, refused_for, done_for}
use Rattle.basics.proofs.Refusals.{passed}
use Rattle.book.specs.Showing.{account, account_refused}
use Rattle.netting.proofs.Signed.{read_is}
use Rattle.book.proofs.Book.account.Goals as goal

pub returns-in-Err-clause-value : goal.returns-in-Err-clause-value
unfolding account
returns-in-Err-clause-value c = ap (account_refused c.args.self) c.from.ensures ∙ refused_for _ _ (account_refused c.args.self) c.member_in.ensures c.in-Err.is

pub bounds-accounts-member : goal.bounds-accounts-member
bounds-accounts-member c = let p = ltb-false _ _ (passed 1 _ [] (zero_by c.member_in.ensures c.in_default.is) refl).0 in omega arith

pub offset_bounds-accounts-member : goal.offset_bounds-accounts-member
offset_bounds-accounts-member c = let p = ltb-false _ _ (passed 1 _ [] (zero_by c.member_in.ensures c.in_default.is) refl).0 in record { fits = omega arith }

pub returns-clause-value : goal.returns-clause-value
unfolding account
returns-clause-value c =
    ap (λ (z : ℤ). record { answer = 0; cents = z; book = c.args.self }) (read_is (get_or c.args.self.ledger.accounts c.args.member (pos 0)) (omega (arith, c.requires.accounts_near c.args.member, c.requires.day.today_most)))
    ∙ done_for _ _ (account_refused _) c.member_in.ensures c.in_default.is
