-- `late_of` meets its contract.
use native.Mathlib.Nat.{lt_of_lt_of_le}
use native.Mathlib.Omega.{arith}
use mathlib.Core.Path.{sym, ◌∙◌}
use borrow.Author.Count.{below_more}
use borrow.Author.Rules.{rules}
use Rattle.book.specs.Showing.{none, some}
use Rattle.book.proofs.Book.late_of.Goals as goal

pub loop-i-init : goal.loop-i-init
loop-i-init c = (omega arith, λ k h. absurd (omega arith))

pub loop-i-preserved : goal.loop-i-preserved
loop-i-preserved c = (search rules, below_more _ _ c.loop-i.invariant.1 (sym c.is_late.ensures ∙ c.if-is_late.false))

pub returns-then-self-i : goal.returns-then-self-i
returns-then-self-i c = none (λ k h. c.loop-i.invariant.1 k (lt_of_lt_of_le h c.if-self-i.true))

pub returns-then-is_late : goal.returns-then-is_late
returns-then-is_late c = some c.loop-i.i c.if-self-i.false (sym c.is_late.ensures ∙ c.if-is_late.true)
