-- Laws of the words that a call is lent: the first n words are filled with a value.
use Prim.Native.Nat.{ℕ}
use mathlib.Core.Path.{◌≡◌, ap, ap₂, ◌∙◌}
use mathlib.Core.List.{List, ◌++◌}
use lib.ListN.{length, take, drop, replicate, length-replicate}
use lib.Seq.{take-append_seam, drop-append_seam}
use Rattle.book.specs.declared.Closed.{Closed}
use Rattle.book.specs.Book.{Valid}
use Rattle.settle.specs.declared.calls.Played.{Played}
use Rattle.settle.specs.Calls.{after_close}

module _ (n value : ℕ) (words filled : List ℕ) (is : filled ≡ replicate n value ++ drop n words) where
  -- the first n words have the value
  pub filled_front : take n filled ≡ replicate n value
  filled_front =
      ap (take n) is
      ∙ rw (length-replicate n value) at (take-append_seam (replicate n value) (drop n words))

  -- the other words are as they were
  pub filled_rest : drop n filled ≡ drop n words
  filled_rest =
      ap (drop n) is
      ∙ rw (length-replicate n value) at (drop-append_seam (replicate n value) (drop n words))

  -- n words are lent
  pub filled_length : length (take n filled) ≡ n
  filled_length = ap length filled_front ∙ length-replicate n value

  -- A call was made with the words that were filled. It is told as the same call with the words of its line, and the words
  -- after those that it was lent are as they were.
  pub as_lent : {R T : Type 0} (call : List ℕ → R) (left : List ℕ → List ℕ) (told : R → T) (r : R) (us : List ℕ) {t : T}
      → r ≡ call (take n filled) → us ≡ left (take n filled) → t ≡ told r
      → (t ≡ told (call (replicate n value))) × (us ++ drop n filled ≡ left (replicate n value) ++ drop n words)
  as_lent call left told r us done ended made =
      (made ∙ ap told (done ∙ ap call filled_front), ap₂ ◌++◌ (ended ∙ ap left filled_front) filled_rest)

  -- the same for a Close or an Again, whose book is valid
  pub lines_lent : (call : List ℕ → Closed) (left : List ℕ → List ℕ) (r : Closed) (us : List ℕ) {t : Played}
      → (r ≡ call (take n filled)) × ((us ≡ left (take n filled)) × Valid r.book) → t ≡ after_close r n value
      → (t ≡ after_close (call (replicate n value)) n value)
      × ((us ++ drop n filled ≡ left (replicate n value) ++ drop n words) × Valid t.book)
  lines_lent call left r us done made =
      let is = as_lent call left (λ (x : Closed). after_close x n value) r us done.0 done.1.0 made in
      (is.0, (is.1, rw made done.1.1))
