-- The days that pass: one Close of several, and then the others.
use Prim.Native.Nat.{ℕ, zero, suc, ◌-◌, ◌<◌}
use native.Mathlib.Omega.{arith}
use mathlib.Core.Path.{◌≡◌, ap}
use mathlib.Core.List.{[], ◌∷◌}
use Rattle.book.specs.declared.Book.{Book}
use Rattle.examples.specs.Played.{book_after, close_at, days_pass}

-- the first day ends, and the others are left
pub one_day : (b : Book) (n : ℕ) → 0 < n → book_after (book_after b (close_at 100000 ∷ [])) (days_pass (n - 1)) ≡ book_after b (days_pass n)
one_day b zero h = absurd (omega arith)
one_day b (suc n) h = let e : suc n - 1 ≡ n = omega arith in ap (λ (m : ℕ). book_after (book_after b (close_at 100000 ∷ [])) (days_pass m)) e
