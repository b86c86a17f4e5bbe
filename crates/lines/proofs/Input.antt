-- What is taken of the input, and which bytes of a line are held.
use Rattle.std.proofs.Common.{inl, inr}
use Rattle.std.proofs.lemmas.Bool.{cases_lt}
use borrow.Rule.Slice.PartMut.{put_mid}
use Prim.Native.Nat.{ℕ, ◌+◌, ◌-◌, ◌≤◌, ◌<◌, min}
use native.Mathlib.Omega.{arith}
use mathlib.Core.Path.{◌≡◌, sym, ap, ap₂, ◌∙◌}
use mathlib.Core.List.{List, ◌++◌, append_assoc}
use lib.ListN.{length, take, drop, length-take}
use lib.Seq.{sets, sets-eq, take-take, take_all, drop-drop, length-take-le}
use borrow.Author.Tests.{lt-ltb, le-ltb}
use Rattle.basics.specs.Lists.{between}
use Rattle.basics.proofs.Stores.{sets_cut}
use Rattle.basics.proofs.Fronts.{up_most, up_taken}
use Rattle.writing.specs.Answers.{line_feed}
use Rattle.lines.specs.Input.{up_to_line_feed, ahead, ended_at, goes_on, held_with, taken_of}
use Rattle.lines.specs.declared.Feed.{Feed}

-- if the bytes do not all fit, the line is the same as if all were written and those past its end were dropped
held_fits : (line part : List ℕ) (held n : ℕ) → held ≤ length line → n ≡ min (length part) (length line - held)
    → sets line held (take n part) ≡ sets line held part
held_fits line part held n h e = elim (cases_lt (length line - held) (length part)) [
  | inl cut ↦ sets_cut line held n part (omega arith)
  | inr fits ↦ ap (sets line held) (take_all n part (omega arith))
]

-- so it is enough to put as many of them in their place as there is room for
pub held_cut : (line part ys : List ℕ) (held n k : ℕ) → held ≤ length line → n ≡ min (length part) (length line - held)
    → k ≡ n → ys ≡ take n part → put_mid held k line ys ≡ sets line held part
held_cut line part ys held n k h e same copied =
    let few : length (take n part) ≡ n = length-take-le n part (omega arith) in
    ap₂ (λ (j : ℕ) (l : List ℕ). put_mid held j line l) same copied
    ∙ sym (append_assoc (take held line) (take n part) (drop n (drop held line)))
    ∙ ap (λ (l : List ℕ). take held line ++ take n part ++ l)
    (drop-drop n held line ∙ ap (λ (j : ℕ). drop (held + j) line) (sym few))
    ∙ sym (sets-eq (take n part) line held (omega (arith, few)))
    ∙ held_fits line part held n h e

-- `end` is the place where the bytes ahead end
module _ (f : Feed) (part : List ℕ) (end : ℕ) (some : f.from ≤ f.to)
    (e : end ≡ f.from + length (up_to_line_feed (between f.from f.to part))) where
  -- it lies within the bytes that were read
  pub end_within : end ≤ f.to
  end_within =
      let most : length (between f.from f.to part) ≤ f.to - f.from = simp length-take (omega arith) in
      omega (arith, some, up_most line_feed (between f.from f.to part))

  -- the bytes up to it are the bytes ahead
  end_ahead : between f.from end part ≡ ahead f part
  unfolding ahead
  end_ahead =
      let left : List ℕ = between f.from f.to part in
      let n : end - f.from ≡ length (up_to_line_feed left) = omega arith in
      let within : end - f.from ≤ f.to - f.from = omega (arith, end_within) in
      sym (take-take (end - f.from) (f.to - f.from) (drop f.from part) within)
      ∙ ap (λ (k : ℕ). take k left) n
      ∙ up_taken line_feed left

  -- the bytes ahead are added to the line
  module _ (line after : List ℕ) (held : ℕ) (h : held ≡ min (length line) (f.held + (end - f.from)))
      (s : after ≡ sets line f.held (between f.from end part)) where
    -- the line is then as the definition says
    held_line : after ≡ sets line f.held (ahead f part)
    held_line = s ∙ ap (sets line f.held) end_ahead

    -- as many bytes are held as the definition says
    held_with_lem : held ≡ held_with (length line) f part
    unfolding held_with ahead
    held_with_lem = omega arith

    -- if a line feed follows them, the line ends
    pub taken_ended : end < f.to
        → (ended_at end held f ≡ taken_of f part (length line)) × (after ≡ sets line f.held (ahead f part))
    unfolding taken_of ahead
    taken_ended l = (rw (← e, lt-ltb end f.to l, held_with_lem), held_line)

    -- if none was read, the line goes on
    pub taken_goes_on : f.to ≤ end
        → (goes_on held f ≡ taken_of f part (length line)) × (after ≡ sets line f.held (ahead f part))
    unfolding taken_of ahead
    taken_goes_on l = (rw (← e, le-ltb end f.to l, held_with_lem), held_line)
