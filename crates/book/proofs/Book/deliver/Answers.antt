-- `deliver` meets its contract.
use Prim.Native.Nat.{ℕ}
use mathlib.Core.Path.{refl}
use Rattle.ledger.specs.declared.Part.TheVariants as part
use Rattle.ledger.specs.Obligations.{cash_of, moving}
use Rattle.refusals.specs.Calls.{deliver_refusals_in, deliver_refusals_of}
use Rattle.ledger.specs.declared.Ledger.{Ledger}
use Rattle.book.specs.declared.Delivered.{Delivered}
use Rattle.book.specs.Book.{with_ledger, today_of}
use Rattle.book.specs.Instructing.{deliver_change, deliver}
use Rattle.book.proofs.Answers.{answered}
use Rattle.book.proofs.Kept.{deliver_valid}
use Rattle.book.proofs.Changing.{change_placed, change_told}
use Rattle.book.proofs.Book.deliver.Goals as goal
use Rattle.book.proofs.Book.deliver.Goals.{Start}

-- what is returned, by the answer number, the result and the ledger
abbrev told : Start → ℕ → ℕ → Ledger → Delivered
told c k r l = record { answer = k; cash = r; book = with_ledger l c.args.self }

pub deliver_change-change-requires : goal.deliver_change-change-requires
deliver_change-change-requires c = c.requires.ledger

pub change-requires : goal.change-requires
unfolding deliver_change
change-requires c =
    let a = c.args in
    change_placed (deliver_refusals_in a.quantity) (λ o. deliver_refusals_of (today_of a.self) o a.quantity) (λ o. cash_of o a.quantity) (moving part.Delivered a.quantity) refl a.self.ledger a.obligation _ c.deliver_change-change.ensures c.requires.ledger.few

pub returns : goal.returns
unfolding deliver_change deliver
returns c =
    let a = c.args in
    answered (λ (r : Delivered). r.book)
    (change_told (deliver_refusals_in a.quantity) (λ o. deliver_refusals_of (today_of a.self) o a.quantity) (λ o. cash_of o a.quantity) (moving part.Delivered a.quantity) refl a.self.ledger a.obligation _ c.deliver_change-change.ensures (told (goal.at.returns c).Start) c.answer_of-answer.ensures c.result_of-cash.ensures c.change.ensures)
    (deliver_valid _ c.requires a.obligation a.quantity)
