-- The shapes of calls, in the way the program tests them: the arguments are the first numbers of a buffer.
use Prim.Native.Nat.{ℕ, ◌+◌, ◌≤◌, ◌<◌}
use native.Mathlib.Omega.{arith}
use mathlib.Core.Path.{◌≡◌, refl, sym}
use mathlib.Core.Bool.{Bool, true, false, ◌&&◌}
use mathlib.Core.List.{List}
use Rattle.std.specs.Prelude.{Some, unwrap_or}
use Rattle.std.specs.Bool.{then_some}
use lib.Dec.{eqb, leb}
use lib.ListN.{length, get_or, take}
use lib.Seq.{length-take-le}
use borrow.Author.Tests.{ne_eqb, leb-true}
use Rattle.basics.specs.Choice.{pick}
use Rattle.basics.proofs.Cases.{and_true, and_no}
use Rattle.reading.specs.Calls.{Naming, most_listed, most_numbers, counted, lists_of, listable, shape_right}
use Rattle.reading.specs.Lines.{call, no_call, call_with, line_of}
use Rattle.reading.specs.declared.Line.TheVariants.{Call, NoCall}
use Rattle.reading.specs.declared.Shape.{Shape}

and_yes : (t : Bool) → (t && true) ≡ t
and_yes true = refl
and_yes false = refl

module _ (places : List ℕ) (count : ℕ) (room : count ≤ length places) where
  size : length (take count places) ≡ count
  size = length-take-le count places room

  -- a fixed count of numbers and no list
  pub shape_plain : (k : ℕ) → eqb count k ≡ shape_right (Shape.Plain k) (take count places)
  unfolding shape_right counted lists_of listable
  shape_plain k = rw size (sym (and_yes (eqb count k)))

-- how many numbers a shape fixes
abbrev pub fixed_by : Shape → ℕ
fixed_by (Shape.Plain k) = k
fixed_by Shape.Days = 3
fixed_by (Shape.Lent k) = k + 2
fixed_by Shape.Amounts = 3

counted_most : (shape : Shape) (ns : List ℕ) → fixed_by shape ≤ most_numbers → listable (lists_of shape ns) ≡ true
    → counted shape ns ≤ most_numbers
unfolding counted lists_of listable
counted_most (Shape.Plain k) ns f e = f
counted_most Shape.Days ns f e =
    omega (arith, leb-true (get_or ns 2 0) most_listed (and_true (leb (get_or ns 2 0) most_listed) true e).0)
counted_most (Shape.Lent k) ns f e = f
counted_most Shape.Amounts ns f e =
    omega (arith, leb-true (get_or ns 0 0) most_listed (and_true (leb (get_or ns 0 0) most_listed) _ e).0)

-- no call has more numbers than a call with the longest list
pub shape_most : (shape : Shape) (ns : List ℕ) → fixed_by shape ≤ most_numbers → most_numbers < length ns
    → shape_right shape ns ≡ false
unfolding shape_right
shape_most shape ns f h = by (listable (lists_of shape ns)) refl
  where
    by : (t : Bool) → listable (lists_of shape ns) ≡ t → (eqb (length ns) (counted shape ns) && t) ≡ false
    by true e =
        let most = counted_most shape ns f e in
        rw (ne_eqb (length ns) (counted shape ns) (λ z. omega arith))
    by false e = and_no (eqb (length ns) (counted shape ns))

-- what a line is whose name and numbers were read
pub line_shaped : (x : Naming) (ns : List ℕ)
    → unwrap_or (then_some (shape_right x.shape ns) (Call x.name x.shape (length ns))) NoCall ≡ line_of (call_with (Some x) (Some ns))
unfolding call_with line_of
line_shaped x ns = by (shape_right x.shape ns)
  where
    by : (t : Bool)
        → unwrap_or (then_some t (Call x.name x.shape (length ns))) NoCall ≡ line_of (pick t (call x.name x.shape ns) no_call)
    by true = refl
    by false = refl
