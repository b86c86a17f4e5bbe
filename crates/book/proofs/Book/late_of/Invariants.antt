-- `late_of` meets its contract.
use Prim.Native.Nat.{ℕ, ◌-◌, ◌≤◌, ◌<◌}
use mathlib.Core.Bool.{false}
use mathlib.Core.Path.{◌≡◌}
use lib.ListN.{get_or}
use Rattle.book.specs.Showing.{is_late}
use Rattle.ledger.specs.Obligations.{no_obligation}
use Rattle.book.proofs.Book.late_of.Given as goal

abbrev pub invariant-loop-i : goal.invariant-loop-i
invariant-loop-i l = (l.i ≤ l.self.ledger.count) × ((k : ℕ) → k < l.i → is_late l.self.day.today l.member (get_or l.self.ledger.obligations k no_obligation) ≡ false)

abbrev pub decreases-loop-i : goal.decreases-loop-i
decreases-loop-i l = l.self.ledger.count - l.i
