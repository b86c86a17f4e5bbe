-- Laws on the parts of a quantity: what a move to one of them does to each, and to their sum.
use Prim.Native.Nat.{ℕ, ◌+◌, ◌-◌, ◌≤◌}
use native.Mathlib.Omega.{arith}
use mathlib.Core.Path.{◌≡◌, refl, sym, ap, ◌∙◌}
use mathlib.Core.Bool.{Bool, true, false}
use lib.ListN.{get_or}
use borrow.Author.Tests.{eqb-true, eq-eqb}
use Rattle.basics.specs.Choice.{pick}
use Rattle.basics.specs.Lists.{total}
use Rattle.basics.proofs.Cases.{pick_case}
use Rattle.ledger.specs.declared.Part.{Part}
use Rattle.ledger.specs.declared.Part.TheVariants.{Delivered, BoughtIn, Compensated, Cancelled}
use Rattle.ledger.specs.declared.Parts.{Parts}
use Rattle.ledger.specs.Parts.{part_of, part_number, every_part, parts_by, same_part, moved, all_parts}

-- ---- which part
-- a part is the one that stands at its place
part_at : (k : Part) → get_or every_part (part_number k) Delivered ≡ k
part_at Delivered = refl
part_at BoughtIn = refl
part_at Compensated = refl
part_at Cancelled = refl

-- a part is the same as itself
pub same_part_self : (k : Part) → same_part k k ≡ true
same_part_self k = eq-eqb (part_number k) (part_number k) refl

-- parts that are the same are equal
pub same_part_lem : (j k : Part) → same_part j k ≡ true → j ≡ k
same_part_lem j k e =
    sym (part_at j) ∙ ap (λ (n : ℕ). get_or every_part n Delivered) (eqb-true (part_number j) (part_number k) e) ∙ part_at k

-- ---- each part
-- the part of the record that a function gives is the function's number
pub part_by : (k : Part) (f : Part → ℕ) (left : ℕ) → part_of k (parts_by f left) ≡ f k
part_by Delivered f left = refl
part_by BoughtIn f left = refl
part_by Compensated f left = refl
part_by Cancelled f left = refl

-- two records are equal if each part and what is outstanding are
pub same_units : (p r : Parts) → ((k : Part) → part_of k p ≡ part_of k r) → p.outstanding ≡ r.outstanding → p ≡ r
same_units p r h e = λ i. parts_by (λ k. h k i) (e i)

-- a move adds to its part alone
pub part_moved : (j k : Part) (q : ℕ) (p : Parts) → part_of j (moved k q p) ≡ pick (same_part j k) (part_of j p + q) (part_of j p)
part_moved j k q p = part_by j (λ i. pick (same_part i k) (part_of i p + q) (part_of i p)) (p.outstanding - q)

pub outstanding_moved : (k : Part) (q : ℕ) (p : Parts) → (moved k q p).outstanding ≡ p.outstanding - q
outstanding_moved k q p = refl

-- ---- their sum
-- a part and what is outstanding are at most the sum
pub part_most : (k : Part) (p : Parts) → part_of k p + p.outstanding ≤ all_parts p
unfolding all_parts total
part_most Delivered p = omega arith
part_most BoughtIn p = omega arith
part_most Compensated p = omega arith
part_most Cancelled p = omega arith

-- a move keeps the sum
pub whole_moved : (k : Part) (q : ℕ) (p : Parts) → q ≤ p.outstanding → all_parts (moved k q p) ≡ all_parts p
unfolding all_parts total
whole_moved Delivered q p h = omega arith
whole_moved BoughtIn q p h = omega arith
whole_moved Compensated q p h = omega arith
whole_moved Cancelled q p h = omega arith

-- ---- moving nothing, and one quantity after another
pub moved_none : (k : Part) (p : Parts) → moved k 0 p ≡ p
moved_none k p =
    same_units (moved k 0 p) p
    (λ j. part_moved j k 0 p ∙ pick_case (λ (n : ℕ). n ≡ part_of j p) (same_part j k) _ _ (λ e. omega arith) (λ e. refl))
    (omega arith)

pub moved_more : (k : Part) (a b : ℕ) (p : Parts) → moved k b (moved k a p) ≡ moved k (a + b) p
moved_more k a b p =
    same_units (moved k b (moved k a p)) (moved k (a + b) p)
    (λ j. rw (part_moved j k b (moved k a p), part_moved j k a p, part_moved j k (a + b) p) (by (same_part j k) (part_of j p)))
    (omega arith)
  where
    by : (t : Bool) (x : ℕ) → pick t (pick t (x + a) x + b) (pick t (x + a) x) ≡ pick t (x + (a + b)) x
    by true x = omega arith
    by false x = refl
