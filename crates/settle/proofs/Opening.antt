-- The closed days that a target writes can be given to an open.
use Prim.Native.Nat.{ℕ}
use native.Mathlib.Omega.{arith}
use mathlib.Core.Path.{◌≡◌, ◌∙◌, ap}
use mathlib.Core.List.{List}
use lib.ListN.{length, take}
use Rattle.basics.specs.Lists.Every.{nobody, also}
use Rattle.basics.proofs.Refusals.{never_given}
use Rattle.calendar.specs.declared.Day.{Day}
use Rattle.calendar.specs.Closed.{closed_refused}
use Rattle.holidays.specs.Target.{target_answer, target, target_words}
use Rattle.holidays.proofs.Refused.{days_written, open_takes}
use Rattle.book.specs.Open.{open_refusals, opened}
use Rattle.book.proofs.Refused.{open_refuses}

-- An Open with the days that an accepted Target wrote is never refused by 4, whatever the years, the first day and the
-- terms are.
pub days_open : (first last : ℕ) (ws : List ℕ) → target_answer first last (length ws) ≡ 0 → (day : Day) (terms : ℕ)
    → (opened day (take (target first last (length ws)).count (target_words first last ws)) terms).answer ≡ 4 → ⊥
unfolding open_refusals
days_open first last ws e day terms =
    let days = take (target first last (length ws)).count (target_words first last ws) in
    never_given (open_refusals day days terms) (opened day days terms).answer 4 (open_refuses day days terms) (λ z. absurd (omega arith))
    (also (λ z. absurd (omega arith))
    (also (λ z. ap closed_refused (days_written first last ws e) ∙ open_takes first last (length ws) e)
    (also (λ z. absurd (omega arith)) nobody)))
