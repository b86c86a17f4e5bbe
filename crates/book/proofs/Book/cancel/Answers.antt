-- `cancel` meets its contract.
use Prim.Native.Nat.{ℕ}
use mathlib.Core.Path.{refl}
use Rattle.ledger.specs.Obligations.{moved_by_wish, wishing}
use Rattle.refusals.specs.Calls.{cancel_refusals_in, cancel_refusals_of}
use Rattle.ledger.specs.declared.Ledger.{Ledger}
use Rattle.book.specs.declared.Cancelled.{Cancelled}
use Rattle.book.specs.Book.{with_ledger}
use Rattle.book.specs.Instructing.{cancel_change, cancel}
use Rattle.book.proofs.Answers.{answered}
use Rattle.book.proofs.Kept.{cancel_valid}
use Rattle.book.proofs.Changing.{change_placed, change_told}
use Rattle.book.proofs.Book.cancel.Goals as goal
use Rattle.book.proofs.Book.cancel.Goals.{Start}

-- what is returned, by the answer number, the result and the ledger
abbrev told : Start → ℕ → ℕ → Ledger → Cancelled
told c k r l = record { answer = k; moved = r; book = with_ledger l c.args.self }

pub cancel_change-change-requires : goal.cancel_change-change-requires
cancel_change-change-requires c = c.requires.ledger

pub change-requires : goal.change-requires
unfolding cancel_change
change-requires c =
    let a = c.args in
    change_placed (cancel_refusals_in a.member) (λ o. cancel_refusals_of o a.member) (moved_by_wish a.member) (wishing a.member) refl a.self.ledger a.obligation _ c.cancel_change-change.ensures c.requires.ledger.few

pub returns : goal.returns
unfolding cancel_change cancel
returns c =
    let a = c.args in
    answered (λ (r : Cancelled). r.book)
    (change_told (cancel_refusals_in a.member) (λ o. cancel_refusals_of o a.member) (moved_by_wish a.member) (wishing a.member) refl a.self.ledger a.obligation _ c.cancel_change-change.ensures (told (goal.at.returns c).Start) c.answer_of-answer.ensures c.result_of-moved.ensures c.change.ensures)
    (cancel_valid _ c.requires a.obligation a.member)
