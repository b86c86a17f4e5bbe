-- Lines that are longer than a call's line may be.
use Prim.Native.Nat.{ℕ, zero, suc, ◌<◌}
use native.Mathlib.Omega.{arith}
use mathlib.Core.Path.{◌≡◌, refl, ap}
use mathlib.Core.Bool.{Bool, true, false}
use mathlib.Core.List.{List, [], ◌∷◌}
use lib.Dec.{ltb}
use lib.ListN.{length, take, length-take}
use lib.Seq.{take_all}
use borrow.Author.Tests.{ltb-true, ltb-false, lt-ltb}
use Rattle.reading.specs.Lines.{is_comment, most_bytes, meaning_of}

-- A line says the same if it is cut, as long as more bytes are left than a call's line may have.
pub meaning_cut : (n : ℕ) (line : List ℕ) → most_bytes < n → meaning_of (take n line) ≡ meaning_of line
unfolding meaning_of is_comment
meaning_cut zero line h = absurd (omega arith)
meaning_cut (suc n) [] h = refl
meaning_cut (suc n) (b ∷ bs) h = by (ltb most_bytes (suc (length bs))) refl
  where
    by : (t : Bool) → ltb most_bytes (suc (length bs)) ≡ t → meaning_of (take (suc n) (b ∷ bs)) ≡ meaning_of (b ∷ bs)
    by true e =
        let long = ltb-true most_bytes (suc (length bs)) e in
        rw (e, lt-ltb most_bytes (suc (length (take n bs))) (omega (arith, length-take n bs)))
    by false e =
        let short = ltb-false most_bytes (suc (length bs)) e in
        ap meaning_of (take_all (suc n) (b ∷ bs) (omega arith))
