-- `days_pass` meets its contract.
use native.Mathlib.Omega.{arith}
use Prim.Native.Nat.{ℕ, ◌+◌, ◌-◌}
use mathlib.Core.Path.{◌≡◌, refl, sym, ap, ◌∙◌}
use Rattle.book.specs.declared.Book.{Book}
use Rattle.examples.specs.Played.{book_after, days_pass}
use Rattle.examples.proofs.Passing.{one_day}
use borrow.Author.Rules.{rules}
use Rattle.examples.proofs.played.days_pass.Goals as goal

pub loop-init : goal.loop-init
loop-init c = let all : c.args.count - 0 ≡ c.args.count = omega arith in (rw all, search rules)

pub loop-preserved : goal.loop-preserved
loop-preserved c =
    let l = c.loop in
    let left : ℕ = c.args.count - l.counter in
    let fewer : c.args.count - (l.counter + 1) ≡ left - 1 = omega arith in (
      rw fewer
          (ap (λ (b : Book). book_after b (days_pass (left - 1))) c.day_ends-today.ensures.value
          ∙ one_day l.today left (omega arith)
          ∙ l.invariant.0),
      search rules,
    )

pub returns : goal.returns
returns c =
    let l = c.loop in
    let none : c.args.count - l.counter ≡ 0 = omega arith in
    record {
      value = ap (λ (n : ℕ). book_after l.today (days_pass n)) (sym none) ∙ l.invariant.0;
      valid = search rules;
    }
