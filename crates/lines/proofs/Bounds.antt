-- Bounds of what is taken: it lies within the bytes that were read and within the line's places. Also how many lines
-- have ended then, and that nothing is taken if all is used up.
use Prim.Native.Nat.{ℕ, ◌+◌, ◌≤◌}
use native.Mathlib.Omega.{arith}
use mathlib.Core.Path.{◌≡◌, refl}
use mathlib.Core.Bool.{true, false}
use mathlib.Core.List.{List}
use lib.Dec.{ltb}
use lib.ListN.{length}
use borrow.Author.Tests.{ltb-true, leb-true, le-ltb}
use Rattle.basics.specs.Choice.{pick}
use Rattle.basics.proofs.Cases.{pick_case}
use Rattle.lines.specs.declared.Feed.{Feed}
use Rattle.lines.specs.declared.Taken.{Taken}
use Rattle.lines.specs.Input.{used_up, ahead, one_more, ended_at, held_with, goes_on, taken_of, ends, size}

-- The bytes that were taken are among those that were read. The bytes that are held, and those of a line that has
-- ended, fit into the line's places.
pub record Within (f : Feed) (places : ℕ) (t : Taken) : Type 0 where
  pub ordered : t.feed.from ≤ t.feed.to
  pub read : t.feed.to ≡ f.to
  pub held : t.feed.held ≤ places
  pub whole : size t ≤ places

-- what is taken lies within these bounds
pub taken_within : (f : Feed) (part : List ℕ) (places : ℕ) → Within f places (taken_of f part places)
unfolding taken_of ended_at held_with goes_on
taken_within f part places =
    pick_case (Within f places) (ltb (f.from + length (ahead f part)) f.to) _ _
    (λ e. let l = ltb-true (f.from + length (ahead f part)) f.to e in
    record { ordered = omega (arith, l); read = refl; held = omega arith; whole = omega arith })
    (λ e. record { ordered = omega arith; read = refl; held = omega arith; whole = omega arith })

-- as many lines have ended as before, and one more if a line ends now
pub taken_counts : (f : Feed) (part : List ℕ) (places : ℕ)
    → (taken_of f part places).feed.ended ≡ pick (ends (taken_of f part places)) (one_more f.ended) f.ended
unfolding taken_of ended_at goes_on
taken_counts f part places =
    let at = f.from + length (ahead f part) in
    let held = held_with places f part in
    pick_case (λ (t : Taken). t.feed.ended ≡ pick (ends t) (one_more f.ended) f.ended) (ltb at f.to)
    (ended_at at held f)
    (goes_on held f)
    (λ e. refl)
    (λ e. refl)

-- if all is used up, no line ends, and nothing is left to take
pub taken_none : (f : Feed) (part : List ℕ) (places : ℕ) → used_up f ≡ true
    → (ends (taken_of f part places) ≡ false) × ((taken_of f part places).feed.from ≡ (taken_of f part places).feed.to)
unfolding taken_of used_up goes_on
taken_none f part places u =
    let past = leb-true f.to f.from u in
    rw (le-ltb (f.from + length (ahead f part)) f.to (omega (arith, past))) (refl, refl)
