-- What a line asks, given its name and its numbers.
use Prim.Native.Nat.{ℕ, ◌≤◌}
use native.Mathlib.Omega.{arith}
use mathlib.Core.Path.{◌≡◌, refl, sym, ap₂, ◌∙◌}
use mathlib.Core.Bool.{true}
use mathlib.Core.List.{List}
use lib.ListN.{length, take}
use Rattle.reading.specs.declared.Name.{Name}
use Rattle.reading.specs.declared.Shape.{Shape}
use Rattle.reading.specs.declared.Line.{Line}
use Rattle.reading.specs.declared.Line.TheVariants.{Comment}
use Rattle.reading.specs.Calls.{shape_right}
use Rattle.reading.specs.Lines.{Understood}
use Rattle.reading.proofs.Arguments.{days_listed, lent_listed, amounts_listed}
use Rattle.lines.specs.declared.Taken.{Taken}
use Rattle.std.specs.Prelude.{Some, None}
use Rattle.settle.specs.declared.calls.Asked.{Asked}
use Rattle.settle.specs.Asked.{nothing_asked, asked_call, asked_of, asks, noted, Listed}

-- a line that asks nothing has no list
pub nothing_listed : (line : Line) (ns : List ℕ) → Listed (nothing_asked line) ns
nothing_listed line ns = record { begins = omega arith; ends = omega arith; lends = omega arith }

-- the list of a call lies within its numbers
pub call_listed : (name : Name) (shape : Shape) (count : ℕ) (ns : List ℕ) → count ≤ length ns
    → shape_right shape (take count ns) ≡ true → Listed (asked_call name shape count ns) ns
unfolding asked_call
call_listed name (Shape.Plain k) count ns h s = record { begins = omega arith; ends = omega arith; lends = omega arith }
call_listed name Shape.Days count ns h s =
    let l = days_listed ns count h s in record { begins = omega (arith, l.0); ends = h; lends = omega arith }
call_listed name (Shape.Lent k) count ns h s =
    let l = lent_listed ns count h k s in record { begins = omega arith; ends = omega arith; lends = l.1 }
call_listed name Shape.Amounts count ns h s =
    let l = amounts_listed ns count h s in
    record { begins = omega (arith, l.0); ends = omega (arith, h); lends = l.2 }

-- the numbers of a line that has ended are put into the buffer
pub noted_line : (t : Taken) (n : ℕ) (line ns : List ℕ) {after : List ℕ} {l : Line} → t.line ≡ Some n
    → Understood (take n line) ns after l → after ≡ noted t line ns
unfolding noted
noted_line t n line ns e u = rw e u.numbers

-- a line that has ended asks what was read from it
pub asked_line : (t : Taken) (n : ℕ) (line ns after : List ℕ) {l : Line} (is : Line) → l ≡ is → t.line ≡ Some n
    → Understood (take n line) ns after l → asked_of is after ≡ asks t line ns
unfolding asks
asked_line t n line ns after is told e u = rw e (ap₂ asked_of (sym told ∙ u.answer) (noted_line (record { feed = t.feed; line = Some n }) n line ns refl u))

-- a line that has ended and asks nothing: what it asks, what is in the buffer for numbers, and that it has no list
pub nothing_asked_lem : (t : Taken) (n : ℕ) (line ns after : List ℕ) {l : Line} {r : Asked} (is : Line) → asked_of is after ≡ nothing_asked is
    → r ≡ nothing_asked is → l ≡ is → t.line ≡ Some n → Understood (take n line) ns after l
    → (r ≡ asks t line ns) × ((after ≡ noted t line ns) × (Listed r after))
nothing_asked_lem t n line ns after is nothing made told e u = (
  made ∙ sym nothing ∙ asked_line t n line ns after is told e u,
  (noted_line t n line ns e u, rw made (nothing_listed is after)),
)

-- a line that has not ended asks nothing, and the buffer for numbers stays as it was
pub asked_not : (t : Taken) (line ns : List ℕ) → t.line ≡ None
    → (nothing_asked Comment ≡ asks t line ns) × (ns ≡ noted t line ns)
unfolding asks noted
asked_not t line ns e = (rw e, rw e)
