-- Refusals: numbered conditions, of which the smallest that holds is given.
use Rattle.std.specs.Prelude.{ℕ, Bool, ◌||◌, List, [], ◌∷◌, ltb, eqb}
use Rattle.basics.specs.Choice.{pick}

-- a refusal: its number, and whether its condition holds
pub record Refusal : Type 0 where
  pub number : ℕ
  pub holds : Bool

-- a refusal from its number and its condition
abbrev pub refuse : ℕ → Bool → Refusal
refuse n t = record { number = n; holds = t }

-- A1 and A2, Refusals: the smallest number whose condition holds, or 0 if none does. The numbers of the list rise.
unfoldable pub answer : List Refusal → ℕ
answer [] = 0
answer (r ∷ rs) = pick r.holds r.number (answer rs)

-- G1, Promises; A1, Refusals: a call with this answer number is done if the number is 0, and refused by the number
-- otherwise
abbrev pub outcome : {A : Type 0} → ℕ → A → (ℕ → A) → A
outcome n done refused = pick (eqb n 0) done (refused n)

-- R2, R3 and R23, Refusals: a number is below the lowest or above the highest that is taken
abbrev pub outside : ℕ → ℕ → ℕ → Bool
outside low high x = ltb x low || ltb high x
