-- Laws on the lines in the lent list, and on parts of a Close that follow one another.
use Prim.Native.Nat.{ℕ, zero, suc, ◌+◌, ◌*◌, ◌≤◌}
use native.Mathlib.Omega.{arith}
use native.Mathlib.Nat.{add-zero}
use mathlib.Core.Path.{◌≡◌, refl, sym, ap, subst, ◌∙◌}
use mathlib.Core.List.{List, [], ◌∷◌, ◌++◌}
use lib.ListN.{length, take, drop, length-append}
use lib.Seq.{sets, length-sets, take-append_seam, drop-append_seam}
use Rattle.basics.specs.Lists.{table_from, table}
use Rattle.basics.proofs.Stores.{sets_append}
use Rattle.basics.proofs.Tables.{table_length, table_more}
use Rattle.ledger.specs.declared.Obligation.{Obligation}
use Rattle.ledger.specs.Lines.{words_in_line}
use Rattle.closing.specs.declared.Line.{Line}
use Rattle.closing.specs.declared.Closing.{Closing}
use Rattle.closing.specs.Lines.{words_of, flat, written, line_at, lines_read, Made, nothing, one, then, Room, Wrote}

pub flat_append : (ls ms : List Line) → flat (ls ++ ms) ≡ flat ls ++ flat ms
unfolding flat
flat_append [] ms = refl
flat_append (l ∷ ls) ms = rw (flat_append ls ms)

-- a line has six words
pub flat_length : (ls : List Line) → length (flat ls) ≡ words_in_line * length ls
unfolding flat
flat_length [] = refl
flat_length (l ∷ ls) = omega (arith, flat_length ls)

-- ---- lines that are read from a list
-- the lines after the first are those of the list after its first six words
line_next : (l : Line) (ws : List ℕ) (i : ℕ) → line_at (words_of l ++ ws) (suc i) ≡ line_at ws i
line_next l ws i =
    let e0 : words_in_line * suc i ≡ suc (suc (suc (suc (suc (suc (words_in_line * i)))))) = omega arith in
    let e1 : words_in_line * suc i + 1 ≡ suc (suc (suc (suc (suc (suc (words_in_line * i + 1)))))) = omega arith in
    let e2 : words_in_line * suc i + 2 ≡ suc (suc (suc (suc (suc (suc (words_in_line * i + 2)))))) = omega arith in
    let e3 : words_in_line * suc i + 3 ≡ suc (suc (suc (suc (suc (suc (words_in_line * i + 3)))))) = omega arith in
    let e4 : words_in_line * suc i + 4 ≡ suc (suc (suc (suc (suc (suc (words_in_line * i + 4)))))) = omega arith in
    let e5 : words_in_line * suc i + 5 ≡ suc (suc (suc (suc (suc (suc (words_in_line * i + 5)))))) = omega arith in
    rw (e1, e2, e3, e4, e5, e0)

read_more : (l : Line) (k : ℕ) (ws : List ℕ) → lines_read (suc k) (words_of l ++ ws) ≡ l ∷ lines_read k ws
unfolding lines_read
read_more l k ws = table_more k (line_at (words_of l ++ ws)) ∙ (λ i. l ∷ table k (λ n. line_next l ws n i))

flat_back : (ls : List Line) (ws : List ℕ) → lines_read (length ls) (flat ls ++ ws) ≡ ls
unfolding flat lines_read table_from
flat_back [] ws = refl
flat_back (l ∷ ls) ws = read_more l (length ls) (flat ls ++ ws) ∙ ap (λ (ms : List Line). l ∷ ms) (flat_back ls ws)

-- lines written at the front of a list are read back, whatever comes after them
pub lines_back : (ls : List Line) (ws : List ℕ) → lines_read (length ls) (written ls ws) ≡ ls
unfolding written
lines_back ls ws = flat_back ls (drop (length (flat ls)) ws)

-- they are within the list
pub written_fits : (ls : List Line) (ws : List ℕ) → words_in_line * length ls ≤ length (written ls ws)
unfolding written
written_fits ls ws = omega (arith, length-append (flat ls) (drop (length (flat ls)) ws), flat_length ls)

-- their words are the first words of the list, and the words after them are as they were
pub written_front : (ls : List Line) (ws : List ℕ) → take (words_in_line * length ls) (written ls ws) ≡ flat ls
unfolding written
written_front ls ws = rw (← flat_length ls) (take-append_seam (flat ls) (drop (length (flat ls)) ws))

pub written_behind : (ls : List Line) (ws : List ℕ) → drop (words_in_line * length ls) (written ls ws) ≡ drop (words_in_line * length ls) ws
unfolding written
written_behind ls ws = rw (← flat_length ls) (drop-append_seam (flat ls) (drop (length (flat ls)) ws))

-- as many lines are read as are asked for
pub read_length : (k : ℕ) (ws : List ℕ) → length (lines_read k ws) ≡ k
unfolding lines_read
read_length k ws = table_length k (line_at ws)

-- the words of lines that are read are the first words of the list
pub read_words : (k : ℕ) (ws : List ℕ) → words_in_line * k ≤ length ws → flat (lines_read k ws) ≡ take (words_in_line * k) ws
unfolding flat lines_read table_from
read_words zero ws h = refl
read_words (suc k) (a ∷ b ∷ c ∷ d ∷ e ∷ f ∷ ws) h =
    let l : Line = record { kind = a; obligation = b; quantity = c; cents = d; supplier = e; price = f } in
    let six : words_in_line * suc k ≡ suc (suc (suc (suc (suc (suc (words_in_line * k)))))) = omega arith in
    ap flat (read_more l k ws) ∙ rw six (ap (λ (us : List ℕ). words_of l ++ us) (read_words k ws (omega arith)))
read_words (suc k) [] h = absurd (omega arith)
read_words (suc k) (a ∷ []) h = absurd (omega arith)
read_words (suc k) (a ∷ b ∷ []) h = absurd (omega arith)
read_words (suc k) (a ∷ b ∷ c ∷ []) h = absurd (omega arith)
read_words (suc k) (a ∷ b ∷ c ∷ d ∷ []) h = absurd (omega arith)
read_words (suc k) (a ∷ b ∷ c ∷ d ∷ e ∷ []) h = absurd (omega arith)

-- ---- lines that are written
-- to write lines after other lines is to write them together
pub flat_stores : (ws : List ℕ) (count : ℕ) (ls ms : List Line) →
    sets (sets ws (words_in_line * count) (flat ls)) (words_in_line * (count + length ls)) (flat ms) ≡ sets ws (words_in_line * count) (flat (ls ++ ms))
flat_stores ws count ls ms =
    ap (λ (k : ℕ). sets (sets ws (words_in_line * count) (flat ls)) k (flat ms)) (omega (arith, flat_length ls))
    ∙ sym (sets_append ws (words_in_line * count) (flat ls) (flat ms))
    ∙ ap (λ (l : List ℕ). sets ws (words_in_line * count) l) (sym (flat_append ls ms))

-- a part without lines writes nothing
pub wrote_nothing : (s : Closing) (ws : List ℕ) → Wrote s ws s ws (nothing s.obligation)
unfolding flat
wrote_nothing s ws = record { numbered = refl; made = refl; counted = sym (add-zero s.count); words = refl }

-- a part with one line writes it
pub wrote_one : (s : Closing) (l : Line) (ws ws' : List ℕ) → ws' ≡ sets ws (words_in_line * s.count) (words_of l) →
    Wrote s ws (record { number = s.number; obligation = s.obligation; count = s.count + 1 }) ws' (one s.obligation l)
unfolding flat
wrote_one s l ws ws' e = record { numbered = refl; made = refl; counted = refl; words = e }

-- what is written depends on the number and the count alone
pub wrote_from : (s : Closing) (o : Obligation) (r : Closing) (ws ws' : List ℕ) (m : Made) →
    Wrote (record { number = s.number; obligation = o; count = s.count }) ws r ws' m → Wrote s ws r ws' m
wrote_from s o r ws ws' m w = record { numbered = w.numbered; made = w.made; counted = w.counted; words = w.words }

-- two parts, one after the other, write what both together make
pub wrote_then : (s r t : Closing) (ws ws' ws'' : List ℕ) (m : Made) (f : ℕ → Obligation → Made) →
    Wrote s ws r ws' m → Wrote r ws' t ws'' (f r.number r.obligation) → Wrote s ws t ws'' (then m (f s.number))
unfolding then
wrote_then s r t ws ws' ws'' m f p q =
    let same : f r.number r.obligation ≡ f s.number m.obligation = λ i. f (p.numbered i) (p.made i) in
    let q' : Wrote r ws' t ws'' (f s.number m.obligation) = subst (Wrote r ws' t ws'') same q in
    let ms : List Line = (f s.number m.obligation).lines in
    record {
      numbered = q'.numbered ∙ p.numbered;
      made = q'.made;
      counted = omega (arith, q'.counted, p.counted, length-append m.lines ms);
      words =
          q'.words
          ∙ ap (λ (l : List ℕ). sets l (words_in_line * r.count) (flat ms)) p.words
          ∙ ap (λ (k : ℕ). sets (sets ws (words_in_line * s.count) (flat m.lines)) (words_in_line * k) (flat ms)) p.counted
          ∙ flat_stores ws s.count m.lines ms;
    }

-- the list keeps its length
pub wrote_length : (s r : Closing) (ws ws' : List ℕ) (m : Made) → Wrote s ws r ws' m → length ws' ≡ length ws
wrote_length s r ws ws' m p = ap (λ (l : List ℕ). length l) p.words ∙ length-sets ws (words_in_line * s.count) (flat m.lines)

-- if there is room for two parts, there is room for the first, and after it for the second
pub room_first : (count : ℕ) (ws : List ℕ) (m : Made) (f : Obligation → Made) → Room count ws (then m f) → Room count ws m
unfolding then
room_first count ws m f h = omega (arith, h, length-append m.lines (f m.obligation).lines)

pub room_second : (s r : Closing) (ws ws' : List ℕ) (m : Made) (f : ℕ → Obligation → Made) →
    Room s.count ws (then m (f s.number)) → Wrote s ws r ws' m → Room r.count ws' (f r.number r.obligation)
unfolding then
room_second s r ws ws' m f h w =
    rw (w.made, w.numbered) (omega (arith, h, w.counted, wrote_length s r ws ws' m w, length-append m.lines (f s.number m.obligation).lines))
