-- The lines of a Close, and what a part of a Close makes of an obligation.
use Rattle.std.specs.Prelude.{ℕ, ◌+◌, ◌*◌, ◌≤◌, ◌<◌, ◌≡◌, List, [], ◌∷◌, ◌++◌, length, get_or}
use Rattle.std.proofs.lemmas.List.Edits.{sets}
use Rattle.basics.specs.Lists.{table, at_front}
use Rattle.amounts.specs.Amounts.{most_quantity, most_offer_price}
use Rattle.ledger.specs.declared.Obligation.{Obligation}
use Rattle.ledger.specs.Lines.{words_in_line}
use Rattle.ledger.specs.Ledger.{most_obligations, most_supplier}
use Rattle.closing.specs.declared.Kind.{Kind}
use Rattle.closing.specs.declared.Kind.TheVariants.{Penalty, Notice, Bought, Compensation}
use Rattle.closing.specs.declared.Line.{Line}
use Rattle.closing.specs.declared.Closing.{Closing}

-- C12, Close: a penalty is a line of kind 1
abbrev pub penalty_kind : ℕ
penalty_kind = 1

-- C12, Close: a notice is a line of kind 2
abbrev pub notice_kind : ℕ
notice_kind = 2

-- C12, Close: what was bought in is a line of kind 3
abbrev pub bought_kind : ℕ
bought_kind = 3

-- C12, Close: what was compensated is a line of kind 4
abbrev pub compensation_kind : ℕ
compensation_kind = 4

-- C12, Close: the number of each kind
abbrev pub kind_number : Kind → ℕ
kind_number Penalty = penalty_kind
kind_number Notice = notice_kind
kind_number Bought = bought_kind
kind_number Compensation = compensation_kind

-- C12, Close: the highest kind of a line
abbrev pub most_kind : ℕ
most_kind = compensation_kind

-- C11, Close: the six words of a line
abbrev pub words_of : Line → List ℕ
words_of l = l.kind ∷ l.obligation ∷ l.quantity ∷ l.cents ∷ l.supplier ∷ l.price ∷ []

-- C11, Close: the words of several lines, one line after another
unfoldable pub flat : List Line → List ℕ
flat [] = []
flat (l ∷ ls) = words_of l ++ flat ls

-- C15, Close; N2, Again: the lines are at the front of the lent list; each word after them stays as it was
unfoldable pub written : List Line → List ℕ → List ℕ
written ls ws = at_front (flat ls) ws

-- C11, Close: the line with number i of a list, from 0 on
abbrev pub line_at : List ℕ → ℕ → Line
line_at ws i = record {
  kind = get_or ws (words_in_line * i) 0;
  obligation = get_or ws (words_in_line * i + 1) 0;
  quantity = get_or ws (words_in_line * i + 2) 0;
  cents = get_or ws (words_in_line * i + 3) 0;
  supplier = get_or ws (words_in_line * i + 4) 0;
  price = get_or ws (words_in_line * i + 5) 0;
}

-- C11, Close; J5, Whole journals: the first count lines of a list, as they are read from it
unfoldable pub lines_read : ℕ → List ℕ → List Line
lines_read count ws = table count (line_at ws)

-- how large the numbers of a line may be; this holds of every line of a Close
pub record SoundLine (l : Line) : Type 0 where
  pub kind_most : l.kind ≤ most_kind
  pub there : l.obligation < most_obligations
  pub quantity_most : l.quantity ≤ most_quantity
  pub supplier_most : l.supplier ≤ most_supplier
  pub price_most : l.price ≤ most_offer_price

-- what a part of a Close makes: the obligation after it, and its lines
pub record Made : Type 0 where
  pub obligation : Obligation
  pub lines : List Line

-- a part that leaves the obligation as it is and makes no line
abbrev pub nothing : Obligation → Made
nothing o = record { obligation = o; lines = [] }

-- a part that makes one line
abbrev pub one : Obligation → Line → Made
one o l = record { obligation = o; lines = l ∷ [] }

-- C3, Close: one part after another; the second works on what the first has left, and its lines come after those of the
-- first
unfoldable pub then : Made → (Obligation → Made) → Made
then m f = record { obligation = (f m.obligation).obligation; lines = m.lines ++ (f m.obligation).lines }

-- after the first count lines there is room for the lines of a part
abbrev pub Room : ℕ → List ℕ → Made → Type 0
Room count ws m = words_in_line * (count + length m.lines) ≤ length ws

-- A part of the Close of s was carried out. r has the obligation and the number of lines after it, and ws' is the list
-- after it.
pub record Wrote (s : Closing) (ws : List ℕ) (r : Closing) (ws' : List ℕ) (m : Made) : Type 0 where
  pub numbered : r.number ≡ s.number
  pub made : r.obligation ≡ m.obligation
  pub counted : r.count ≡ s.count + length m.lines
  pub words : ws' ≡ sets ws (words_in_line * s.count) (flat m.lines)
