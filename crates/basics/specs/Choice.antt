-- The choice between two values by a test.
use Rattle.std.specs.Prelude.{Bool, true, false}

-- The choice between two values by a test: a if the test holds, and b if it does not. Nearly every definition uses it.
abbrev pub pick : {A : Type 0} → Bool → A → A → A
pick true a b = a
pick false a b = b
