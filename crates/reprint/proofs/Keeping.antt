-- Laws on the lines that a book keeps: they are those of the Close, and they are written as the Close wrote them.
use Prim.Native.Nat.{ℕ, ◌+◌, ◌*◌, ◌≤◌, ◌<◌}
use native.Mathlib.Numerals.{add-one}
use native.Mathlib.Omega.{arith}
use mathlib.Core.Path.{◌≡◌, sym, ap, ◌∙◌}
use mathlib.Core.List.{List, [], ◌∷◌, ◌++◌, map, map-append, map-id, map-map}
use lib.ListN.{length, get_or, set, take, length-map}
use lib.Seq.{sets, take-suc, length-take-le}
use Rattle.basics.specs.Lists.{padded}
use Rattle.basics.proofs.Places.{padded_more, padded_length, padded_front}
use Rattle.basics.proofs.Stores.{sets_ahead}
use Rattle.basics.proofs.Tables.{table_last}
use Rattle.ledger.specs.Lines.{words_in_line, fewest_words, most_lines}
use Rattle.closing.specs.declared.Line.{Line}
use Rattle.closing.specs.Lines.{words_of, flat, written, line_at, lines_read}
use Rattle.closing.proofs.Lines.{flat_length, flat_stores, read_length}
use Rattle.reprint.specs.declared.KeptLine.{KeptLine}
use Rattle.reprint.specs.declared.LastClose.{LastClose}
use Rattle.reprint.specs.Kept.{kept_line, line_of, no_line, kept_from, lines_kept, ValidLast}

-- ---- lines that are kept
-- the lines that are kept are those that were to be kept
pub kept_back : (ls : List Line) → lines_kept (kept_from ls) ≡ ls
kept_back ls =
    let front = ap (λ (n : ℕ). take n (padded most_lines no_line (map kept_line ls))) (sym (length-map ls kept_line)) ∙ padded_front most_lines no_line (map kept_line ls) in
    ap (map line_of) front ∙ map-map line_of kept_line ls ∙ map-id ls

pub kept_valid : (ls : List Line) → length ls ≤ most_lines → ValidLast (kept_from ls)
kept_valid ls h = record { size = padded_length most_lines no_line (map kept_line ls) (omega (arith, length-map ls kept_line)); few = h }

-- with one line more stored after them
pub kept_more : (ws : List ℕ) (i : ℕ) (rows : List KeptLine) → i < most_lines → rows ≡ padded most_lines no_line (map kept_line (lines_read i ws)) →
    set rows i (kept_line (line_at ws i)) ≡ padded most_lines no_line (map kept_line (lines_read (i + 1) ws))
unfolding lines_read
kept_more ws i rows h e =
    let ls : List Line = lines_read i ws in
    let size : length (map kept_line ls) ≡ i = length-map ls kept_line ∙ read_length i ws in
    let more : map kept_line ls ++ kept_line (line_at ws i) ∷ [] ≡ map kept_line (lines_read (i + 1) ws) =
    sym (map-append kept_line ls (line_at ws i ∷ [])) ∙ ap (map kept_line) (sym (table_last i (line_at ws))) in
    ap (λ (xs : List KeptLine). set xs i (kept_line (line_at ws i))) e
    ∙ ap (λ (n : ℕ). set (padded most_lines no_line (map kept_line ls)) n (kept_line (line_at ws i))) (sym size)
    ∙ padded_more most_lines no_line (kept_line (line_at ws i)) (map kept_line ls) (omega arith)
    ∙ ap (padded most_lines no_line) more

-- ---- lines that are written
-- the lines of the first i rows
abbrev pub front : ℕ → List KeptLine → List Line
front i rows = map line_of (take i rows)

front_length : (i : ℕ) (rows : List KeptLine) → i ≤ length rows → length (front i rows) ≡ i
front_length i rows h = length-map (take i rows) line_of ∙ length-take-le i rows h

-- with one line more written after them
pub wrote_more : (rows : List KeptLine) (i : ℕ) (ws us vs : List ℕ) → i < length rows → us ≡ sets ws 0 (flat (front i rows)) →
    vs ≡ sets us (words_in_line * i) (words_of (line_of (get_or rows i no_line))) → vs ≡ sets ws 0 (flat (front (i + 1) rows))
unfolding flat
wrote_more rows i ws us vs h e f =
    let l : Line = line_of (get_or rows i no_line) in
    let more : front (i + 1) rows ≡ front i rows ++ l ∷ [] =
    rw (add-one i, take-suc rows i no_line h) (map-append line_of (take i rows) (get_or rows i no_line ∷ [])) in
    let place : words_in_line * i ≡ words_in_line * (0 + length (front i rows)) = omega (arith, front_length i rows (omega arith)) in
    f
    ∙ ap (λ (us : List ℕ). sets us (words_in_line * i) (words_of l)) e
    ∙ ap (λ (n : ℕ). sets (sets ws 0 (flat (front i rows))) n (words_of l)) place
    ∙ flat_stores ws 0 (front i rows) (l ∷ [])
    ∙ ap (λ (ls : List Line). sets ws 0 (flat ls)) (sym more)

-- the lines are at the front, and the words after them are as they were
pub wrote_all : (k : LastClose) (ws us : List ℕ) → ValidLast k → fewest_words ≤ length ws → us ≡ sets ws 0 (flat (lines_kept k)) → us ≡ written (lines_kept k) ws
unfolding written
wrote_all k ws us v h e =
    e ∙ sets_ahead ws (flat (lines_kept k)) (omega (arith, flat_length (lines_kept k), front_length k.count k.rows (omega (arith, v.size, v.few)), v.few))
