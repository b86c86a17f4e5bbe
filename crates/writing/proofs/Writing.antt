-- Bytes that are written one after another.
use Prim.Native.Nat.{ℕ, suc, ◌+◌, ◌-◌, ◌*◌, ◌≤◌, ◌<◌}
use native.Mathlib.Nat.{add-zero}
use native.Mathlib.Omega.{arith}
use native.Mathlib.Numerals.{add-one}
use mathlib.Core.Path.{◌≡◌, refl, sym, ap, ◌∙◌}
use mathlib.Core.List.{List, [], ◌∷◌, ◌++◌, map, map-append, append_assoc, append-nil}
use lib.ListN.{length, get_or, set, take, drop, length-append, length-take, length-drop}
use lib.Seq.{sets, sets-eq, length-sets, take-suc, take_all, length-take-le, take-append_seam}
use Rattle.std.proofs.lemmas.List.{drop-drop}
use Rattle.basics.proofs.Stores.{sets_append}
use Rattle.writing.specs.Digits.{digits_of}
use Rattle.writing.specs.Words.{space, spaced, joined}
use Rattle.writing.specs.Answers.{Wrote, text_of, answer_of, labelled, no_call_of, end_of}
use Rattle.writing.proofs.Digits.{digits_most}

-- nothing is written
pub wrote_none : (out : List ℕ) (at : ℕ) → Wrote [] out at out at
wrote_none out at = record { stands = refl; place = sym (add-zero at) }

-- one byte is written
pub wrote_one : (b : ℕ) (out : List ℕ) (at : ℕ) → Wrote (b ∷ []) out at (set out at b) (at + 1)
wrote_one b out at = record { stands = refl; place = refl }

-- bytes that are written in one piece stand between what was ahead of them and what was behind them
pub wrote_over : (bytes out : List ℕ) (at : ℕ) → at + length bytes ≤ length out
    → Wrote bytes out at (take at out ++ (bytes ++ drop (length bytes) (drop at out))) (at + length bytes)
wrote_over bytes out at h = record {
  stands = ap (λ (l : List ℕ). take at out ++ (bytes ++ l)) (drop-drop (length bytes) at out)
      ∙ sym (append_assoc (take at out) bytes (drop (at + length bytes) out))
      ∙ sym (sets-eq bytes out at h);
  place = refl;
}

-- writing bytes and then others is the same as writing them all at once
pub wrote_then : {xs ys out between after : List ℕ} {at next end : ℕ}
    → Wrote xs out at between next → Wrote ys between next after end → Wrote (xs ++ ys) out at after end
wrote_then {xs} {ys} {out} {between} {after} {at} {next} {end} a b = record {
  stands = b.stands
      ∙ ap (λ (n : ℕ). sets between n ys) a.place
      ∙ ap (λ (l : List ℕ). sets l (at + length xs) ys) a.stands
      ∙ sym (sets_append out at xs ys);
  place = omega (arith, a.place, b.place, length-append xs ys);
}

-- the bytes up to the next place are those that were ahead of the text, and the text
pub wrote_shown : {xs out after : List ℕ} {at next : ℕ} → Wrote xs out at after next → at + length xs ≤ length out
    → take next after ≡ take at out ++ xs
wrote_shown {xs} {out} {after} {at} {next} w h =
    let size : length (take at out ++ xs) ≡ at + length xs =
    length-append (take at out) xs ∙ ap (λ (n : ℕ). n + length xs) (length-take-le at out (omega arith)) in
    rw (w.place, w.stands, sets-eq xs out at h)
    (rw size at (take-append_seam (take at out ++ xs) (drop (at + length xs) out)))

-- the output has as many bytes as before
pub wrote_length : {xs out after : List ℕ} {at next : ℕ} → Wrote xs out at after next → length after ≡ length out
wrote_length {xs} {out} {after} {at} {next} w = ap length w.stands ∙ length-sets out at xs

-- the next place may be replaced by one that is equal to it
pub wrote_to : {xs out after : List ℕ} {at next end : ℕ}
    → next ≡ end → Wrote xs out at after next → Wrote xs out at after end
wrote_to e w = record { stands = w.stands; place = sym e ∙ w.place }

-- one more byte of a list is copied
pub copied_more : (bytes out after : List ℕ) (at i : ℕ) → i < length bytes → Wrote (take i bytes) out at after (at + i)
    → Wrote (take (i + 1) bytes) out at (set after (at + i) (get_or bytes i 0)) (at + (i + 1))
copied_more bytes out after at i h w =
    rw (add-one i, take-suc bytes i 0 h)
    (wrote_to (omega arith) (wrote_then w (wrote_one (get_or bytes i 0) after (at + i))))

-- every byte of a list is copied
pub copied_all : (bytes out after : List ℕ) (at i : ℕ) → length bytes ≤ i → Wrote (take i bytes) out at after (at + i)
    → Wrote bytes out at after (at + i)
copied_all bytes out after at i h w = rw (take_all i bytes h) at w

-- the text of words and then others, with a space in front of each
spaced_append : (vs ws : List (List ℕ)) → spaced (vs ++ ws) ≡ spaced vs ++ spaced ws
unfolding spaced
spaced_append [] ws = refl
spaced_append (v ∷ vs) ws =
    ap (λ (l : List ℕ). space ∷ v ++ l) (spaced_append vs ws) ∙ sym (append_assoc (space ∷ v) (spaced vs) (spaced ws))

spaced_one : (w : List ℕ) → spaced (w ∷ []) ≡ space ∷ w
unfolding spaced
spaced_one w = append-nil (space ∷ w)

-- the text of one more number of a list, with a space in front of each
pub spaced_more : (ns : List ℕ) (i : ℕ) → i < length ns
    → spaced (map digits_of (take (i + 1) ns)) ≡ spaced (map digits_of (take i ns)) ++ (space ∷ digits_of (get_or ns i 0))
spaced_more ns i h =
    rw (add-one i, take-suc ns i 0 h, map-append digits_of (take i ns) (get_or ns i 0 ∷ []))
    (spaced_append (map digits_of (take i ns)) (digits_of (get_or ns i 0) ∷ [])
    ∙ ap (λ (l : List ℕ). spaced (map digits_of (take i ns)) ++ l) (spaced_one (digits_of (get_or ns i 0))))

-- each number takes at most 21 bytes with its space
pub spaced_most : (ns : List ℕ) → length (spaced (map digits_of ns)) ≤ 21 * length ns
unfolding spaced
spaced_most [] = omega arith
spaced_most (n ∷ ns) =
    omega (arith, length-append (space ∷ digits_of n) (spaced (map digits_of ns)), digits_most n, spaced_most ns)

-- each number takes at most 21 bytes
pub text_most : (ns : List ℕ) → length (text_of ns) ≤ 21 * length ns
unfolding text_of joined
text_most [] = omega arith
text_most (n ∷ ns) =
    omega (arith, length-append (digits_of n) (spaced (map digits_of ns)), digits_most n, spaced_most ns)

-- a line feed after them takes one byte more
pub line_most : (ns : List ℕ) → length (answer_of ns) ≤ 21 * length ns + 1
unfolding answer_of
line_most ns = simp length-append (omega (arith, text_most ns))

-- a number and a line feed take at most 21 bytes after a label
pub labelled_most : (label : List ℕ) (n : ℕ) → length (labelled label n) ≤ length label + 21
unfolding labelled
labelled_most label n =
    simp length-append (omega (arith, digits_most n))

-- after a label and a number there is room for a line feed
pub room_behind : (label : List ℕ) (n : ℕ) {out after : List ℕ} {at next : ℕ} → Wrote (label ++ digits_of n) out at after next
    → at + length label + 21 ≤ length out → next < length after
room_behind label n w room =
    omega (arith, w.place, wrote_length w, length-append label (digits_of n), digits_most n)

-- the answer to a line that is no call has at most 28 bytes
pub no_call_most : (line : ℕ) → length (no_call_of line) ≤ 28
unfolding no_call_of
no_call_most line = labelled_most _ line

-- the last line of the output has at most 25 bytes
pub end_most : (lines : ℕ) → length (end_of lines) ≤ 25
unfolding end_of
end_most lines = labelled_most _ lines

-- one more number of a list is written
pub further_more : (ns out between after : List ℕ) (at i next end : ℕ) → i < length ns
    → Wrote (spaced (map digits_of (take i ns))) out at between next
    → Wrote (space ∷ digits_of (get_or ns i 0)) between next after end
    → Wrote (spaced (map digits_of (take (i + 1) ns))) out at after end
further_more ns out between after at i next end h a b = rw (spaced_more ns i h) (wrote_then a b)

-- every number of a list is written
pub further_all : (ns out after : List ℕ) (at i next : ℕ) → length ns ≤ i
    → Wrote (spaced (map digits_of (take i ns))) out at after next → Wrote (spaced (map digits_of ns)) out at after next
further_all ns out after at i next h w = rw (take_all i ns h) at w

-- there is room for one more number
pub further_room : (ns out after : List ℕ) (at i next : ℕ) → i < length ns → at + 21 * length ns ≤ length out
    → Wrote (spaced (map digits_of (take i ns))) out at after next → next + 21 ≤ length after
further_room ns out after at i next h room w =
    omega (arith, wrote_length w, w.place, spaced_most (take i ns), length-take-le i ns (omega arith))

-- if there are no numbers, nothing is written
pub numbers_none : (ns out : List ℕ) (at : ℕ) → length ns ≡ 0 → Wrote (text_of ns) out at out at
unfolding text_of joined
numbers_none [] out at e = wrote_none out at
numbers_none (n ∷ ns) out at e = absurd (omega arith)

-- numbers are written: the first, and then the others
pub numbers_all : (ns out between after : List ℕ) (at next end : ℕ) → (length ns ≡ 0 → ⊥)
    → Wrote (digits_of (get_or ns 0 0)) out at between next
    → Wrote (spaced (map digits_of (take (length ns - 1) (drop 1 ns)))) between next after end
    → Wrote (text_of ns) out at after end
unfolding text_of joined
numbers_all [] out between after at next end some a b = absurd (some refl)
numbers_all (n ∷ ns) out between after at next end some a b =
    wrote_then a (rw (take_all (suc (length ns) - 1) ns (omega arith)) at b)

-- after the first number there is room for the others
pub numbers_room : (ns out after : List ℕ) (at next : ℕ) → (length ns ≡ 0 → ⊥) → at + 21 * length ns ≤ length out
    → Wrote (digits_of (get_or ns 0 0)) out at after next
    → next + 21 * length (take (length ns - 1) (drop 1 ns)) ≤ length after
numbers_room ns out after at next some room w =
    let rest : length (take (length ns - 1) (drop 1 ns)) ≤ length ns - 1 =
    simp (length-take, length-drop) (omega arith) in
    omega (arith, wrote_length w, w.place, digits_most (get_or ns 0 0))
