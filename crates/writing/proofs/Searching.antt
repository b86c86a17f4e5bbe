-- The elements ahead of the first that equals a given number, as the library's search for it counts them.
use Rattle.std.proofs.Common.{◌≡◌, ℕ, ◌+◌, List, [], ◌∷◌, length, refl, arith, Bool, true, false}
use Rattle.std.specs.List.{position_or_len}
use Rattle.std.specs.Prelude.{eqb}
use Rattle.std.proofs.lemmas.List.Recursion.{is_position_or_len}
use Rattle.std.specs.Prelude.{cond}
use Rattle.basics.specs.Choice.{pick}
use Rattle.basics.specs.Lists.{up_to}

-- as many elements are ahead of the number as its place says
pub up_to_position : (x : ℕ) (xs : List ℕ) → length (up_to x xs) ≡ position_or_len (λ y. eqb y x) xs
unfolding up_to
up_to_position x xs = is_position_or_len (λ ys. length (up_to x ys)) (λ y. eqb y x) refl (λ y ys. by y ys (eqb y x)) xs
  where
    by : (y : ℕ) (ys : List ℕ) (t : Bool) → length (pick t [] (y ∷ up_to x ys)) ≡ cond t 0 (1 + length (up_to x ys))
    by y ys true = refl
    by y ys false = omega arith
