-- `kept_of` meets its contract. The loop's invariant: of the words so far, so many are kept.
use Prim.Native.Nat.{◌≤◌}
use mathlib.Core.Path.{◌≡◌}
use lib.ListN.{take}
use Rattle.answers.specs.Text.{kept_of}
use Rattle.answers.proofs.kept_of.Given as goal

abbrev pub invariant-loop-word : goal.invariant-loop-word
invariant-loop-word l = (l.kept ≤ l.word-index) × (l.kept ≡ kept_of l.fill (take l.word-index l.words))
