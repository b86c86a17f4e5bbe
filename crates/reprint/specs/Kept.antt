-- The lines of the latest Close, as the book keeps them.
use Rattle.std.specs.Prelude.{ℕ, ◌*◌, ◌≤◌, ◌≡◌, List, map, length, take}
use Rattle.basics.specs.Lists.{Every, padded}
use Rattle.ledger.specs.Lines.{words_in_line, most_lines}
use Rattle.closing.specs.declared.Line.{Line}
use Rattle.closing.specs.Lines.{lines_read, SoundLine}
use Rattle.reprint.specs.declared.KeptLine.{KeptLine}
use Rattle.reprint.specs.declared.LastClose.{LastClose}

-- N2, Again: the book keeps all six numbers of a line
abbrev pub kept_line : Line → KeptLine
kept_line l = record {
  cents = l.cents;
  quantity = l.quantity;
  price = l.price;
  kind = l.kind;
  supplier = l.supplier;
  obligation = l.obligation;
}

-- N2, Again: the line of a Close, from its numbers as they are kept
abbrev pub line_of : KeptLine → Line
line_of k = record {
  kind = k.kind;
  obligation = k.obligation;
  quantity = k.quantity;
  cents = k.cents;
  supplier = k.supplier;
  price = k.price;
}

-- what fills a free row among the lines that are kept
abbrev pub no_line : KeptLine
no_line = record { cents = 0; quantity = 0; price = 0; kind = 0; supplier = 0; obligation = 0 }

-- N2 and N3, Again: the book keeps these lines, and no line of an earlier Close
abbrev pub kept_from : List Line → LastClose
kept_from ls = record { rows = padded most_lines no_line (map kept_line ls); count = length ls }

-- N2, Again: the lines that are kept
abbrev pub lines_kept : LastClose → List Line
lines_kept k = map line_of (take k.count k.rows)

-- what is required so that the first count lines of a list can be kept
pub record Keepable (count : ℕ) (ws : List ℕ) : Type 0 where
  pub few : count ≤ most_lines
  pub long : words_in_line * count ≤ length ws
  pub sound : Every SoundLine (lines_read count ws)

-- O9, Open: what holds of the lines that any book keeps
pub record ValidLast (k : LastClose) : Type 0 where
  pub size : length k.rows ≡ most_lines
  pub few : k.count ≤ most_lines
