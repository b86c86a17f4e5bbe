-- How the words are counted that still have the value that they were filled with. Such a word is called kept.
use Prim.Native.Nat.{ℕ, ◌+◌, ◌≤◌, ◌<◌}
use native.Mathlib.Numerals.{add-one}
use native.Mathlib.Omega.{arith}
use mathlib.Core.Path.{◌≡◌, refl, sym, ◌∙◌}
use mathlib.Core.Bool.{Bool, true, false}
use mathlib.Core.List.{List, [], ◌∷◌, ◌++◌}
use lib.Dec.{eqb}
use lib.ListN.{length, get_or, take, drop, drop_of_length-le, length-take}
use lib.Seq.{take-suc, drop-append-le}
use borrow.Author.Tests.{eq-eqb, ne_eqb}
use Rattle.std.specs.Prelude.{cond}
use Rattle.std.specs.List.{count_by}
use Rattle.std.proofs.lemmas.List.Recursion.{is_count_by}
use Rattle.basics.specs.Choice.{pick}
use Rattle.answers.specs.Text.{kept_of}

-- they are as many as the library counts
pub kept_counts : (fill : ℕ) (words : List ℕ) → kept_of fill words ≡ count_by (λ w. eqb w fill) words
unfolding kept_of
kept_counts fill words = is_count_by (kept_of fill) (λ w. eqb w fill) refl (λ w ws. by (eqb w fill) (kept_of fill ws)) words
  where
    by : (t : Bool) (n : ℕ) → pick t 1 0 + n ≡ cond t (1 + n) n
    by true n = refl
    by false n = omega arith

-- the count of a list with one more word at its end
kept_snoc : (fill : ℕ) (ws : List ℕ) (w : ℕ) → kept_of fill (ws ++ w ∷ []) ≡ kept_of fill ws + pick (eqb w fill) 1 0
unfolding kept_of
kept_snoc fill [] w = omega arith
kept_snoc fill (v ∷ ws) w = omega (arith, kept_snoc fill ws w)

-- the count begins with no words, so it is 0
pub kept_none : (words : List ℕ) (from fill : ℕ) → 0 ≡ kept_of fill (drop from (take from words))
unfolding kept_of
kept_none words from fill =
    rw (drop_of_length-le (take from words) {i = from} (omega (arith, length-take from words)))

module _ (words : List ℕ) (from i fill : ℕ) (f : from ≤ i) (l : i < length words) where
  -- the count up to a place, and the word at that place
  kept_next : kept_of fill (drop from (take (i + 1) words))
      ≡ kept_of fill (drop from (take i words)) + pick (eqb (get_or words i 0) fill) 1 0
  kept_next =
      rw (
        add-one i,
        take-suc words i 0 l,
        drop-append-le from (take i words) (get_or words i 0 ∷ []) (omega (arith, length-take i words)),
      )
      (kept_snoc fill (drop from (take i words)) (get_or words i 0))

  -- if the word at that place is kept, the count grows by one
  pub kept_more : (kept : ℕ) → kept ≡ kept_of fill (drop from (take i words)) → get_or words i 0 ≡ fill
      → kept + 1 ≡ kept_of fill (drop from (take (i + 1) words))
  kept_more kept e h = sym (kept_next ∙ rw (eq-eqb (get_or words i 0) fill h, e))

  -- if it is not kept, the count stays the same
  pub kept_same : (kept : ℕ) → kept ≡ kept_of fill (drop from (take i words)) → (get_or words i 0 ≡ fill → ⊥)
      → kept ≡ kept_of fill (drop from (take (i + 1) words))
  kept_same kept e h =
      let n = rw (ne_eqb (get_or words i 0) fill h) at kept_next in
      omega (arith, n, e)
