-- The parts of an obligation's quantity: what has become of it, and what is outstanding.
use Rattle.std.specs.Prelude.{ℕ, ◌+◌, ◌-◌, Bool, true, false, List, [], ◌∷◌, eqb}
use Rattle.basics.specs.Choice.{pick}
use Rattle.basics.specs.Lists.{total}
use Rattle.ledger.specs.declared.Part.{Part}
use Rattle.ledger.specs.declared.Part.TheVariants.{Delivered, BoughtIn, Compensated, Cancelled}
use Rattle.ledger.specs.declared.Parts.{Parts}

-- the units of a quantity that have become this part
abbrev pub part_of : Part → Parts → ℕ
part_of Delivered p = p.delivered
part_of BoughtIn p = p.bought_in
part_of Compensated p = p.compensated
part_of Cancelled p = p.cancelled

-- the place of a part in the list of all parts
abbrev pub part_number : Part → ℕ
part_number Delivered = 0
part_number BoughtIn = 1
part_number Compensated = 2
part_number Cancelled = 3

-- L1, Reading: what can become of a quantity, in the order in which Status shows it
abbrev pub every_part : List Part
every_part = Delivered ∷ BoughtIn ∷ Compensated ∷ Cancelled ∷ []

-- V3, Deliver: the parts that settle, against cash: what is delivered and what is bought in
abbrev pub settles : Part → Bool
settles Delivered = true
settles BoughtIn = true
settles Compensated = false
settles Cancelled = false

-- the parts by a function that gives the units of each, and what is outstanding
abbrev pub parts_by : (Part → ℕ) → ℕ → Parts
parts_by f left = record {
  delivered = f Delivered;
  bought_in = f BoughtIn;
  compensated = f Compensated;
  cancelled = f Cancelled;
  outstanding = left;
}

-- whether two parts are the same
abbrev pub same_part : Part → Part → Bool
same_part j k = eqb (part_number j) (part_number k)

-- the parts of a quantity of 0, which a refused Status shows
abbrev pub no_parts : Parts
no_parts = parts_by (λ k. 0) 0

-- V1, Deliver; C8 and C10, Close; K3, Cancel: q units move from outstanding to the part k
abbrev pub moved : Part → ℕ → Parts → Parts
moved k q p = parts_by (λ j. pick (same_part j k) (part_of j p + q) (part_of j p)) (p.outstanding - q)

-- V3, Deliver: the units settled: the sum of the parts that settle
unfoldable pub settled_parts : Parts → ℕ
settled_parts p = total (λ k. pick (settles k) (part_of k p) 0) every_part

-- J10, Whole journals: the sum of all parts and of what is outstanding, which is Q
unfoldable pub all_parts : Parts → ℕ
all_parts p = total (λ k. part_of k p) every_part + p.outstanding
