-- Laws on ranks. In a strict order of members exactly L of them have a rank below L, and the order for a cent is such
-- an order.
use Prim.Native.Nat.{ℕ, zero, suc, ◌+◌, ◌-◌, ◌≤◌, ◌<◌}
use native.Mathlib.Omega.{arith}
use mathlib.Core.Bool.{Bool, true, false}
use mathlib.Core.Logic.{◌⊎◌, inl, inr, ⊎_elim}
use mathlib.Core.Path.{◌≡◌, refl, sym, ap, ◌∙◌}
use lib.Dec.{ltb}
use borrow.Author.Tests.{ltb-true, ltb-false, lt-ltb, le-ltb}
use Rattle.basics.proofs.Cases.{never, same_test, below_or_not, lesser_case}
use Rattle.basics.specs.Lists.{count_below}
use Rattle.netting.specs.Shares.{comes_before, rank}
use Rattle.basics.proofs.Counts.{more, count_within, count_same, count_most, count_less}
use Rattle.netting.specs.Accounts.{member_count}

-- two comparisons agree if each follows from the other
ltb_same : (a b c d : ℕ) → (a < b → c < d) → (c < d → a < b) → ltb a b ≡ ltb c d
ltb_same a b c d f g =
    same_test (ltb a b) (ltb c d) (λ e. lt-ltb c d (f (ltb-true a b e))) (λ e. le-ltb c d (other (ltb-false a b e)))
  where
    other : b ≤ a → d ≤ c
    other h = ⊎_elim (λ (l : c < d). let m = g l in absurd (omega arith)) (λ (l : d ≤ c). l) (below_or_not c d)

-- a strict order in which one of any two members comes before the other
pub record Ranking (b : ℕ → ℕ → Bool) : Type 0 where
  pub alone : (k : ℕ) → b k k ≡ false
  pub either : (k m : ℕ) → (k ≡ m → ⊥) → b k m ≡ false → b m k ≡ true
  pub onward : (i j k : ℕ) → b i j ≡ true → b j k ≡ true → b i k ≡ true

-- how many of the first n members come before m
place : (ℕ → ℕ → Bool) → ℕ → ℕ → ℕ
place b n m = count_below n (λ (k : ℕ). b k m)

module _ (b : ℕ → ℕ → Bool) (o : Ranking b) where
  not_back : (k m : ℕ) (t : Bool) → b m k ≡ t → b k m ≡ true → b m k ≡ false
  not_back k m true e h = absurd (never (sym (o.alone k) ∙ o.onward k m k h e))
  not_back k m false e h = e

  place_within : (n m : ℕ) → place b n m ≤ n
  unfolding place
  place_within n m = count_within n (λ (k : ℕ). b k m)

  place_less : (n k m : ℕ) → k < n → b k m ≡ true → place b n k < place b n m
  unfolding place
  place_less n k m l h =
      count_less n (λ (i : ℕ). b i k) (λ (i : ℕ). b i m) (λ i _ e. o.onward i k m e h) k l (o.alone k) h

  place_most : (n k m : ℕ) → b k m ≡ true → place b n k ≤ place b n m
  unfolding place
  place_most n k m h = count_most n (λ (i : ℕ). b i k) (λ (i : ℕ). b i m) (λ i _ e. o.onward i k m e h)

  place_next : (n m : ℕ) → place b (suc n) m ≡ more (b n m) (place b n m)
  unfolding place count_below
  place_next n m = refl

  -- a member that does not come after the new one keeps its place
  place_kept : (n m : ℕ) → b n m ≡ false → place b (suc n) m ≡ place b n m
  place_kept n m h = place_next n m ∙ rw h

  -- a member that comes after the new one has one more before it
  place_moved : (n m : ℕ) → b n m ≡ true → place b (suc n) m ≡ place b n m + 1
  place_moved n m h = place_next n m ∙ rw h

  -- If the new member n has a place from L on, the same members have a place below L as before.
  behind : (n L m : ℕ) → L ≤ place b n n → m < n → ltb (place b (suc n) m) L ≡ ltb (place b n m) L
  behind n L m h l = by (b m n) refl
    where
      by : (t : Bool) → b m n ≡ t → ltb (place b (suc n) m) L ≡ ltb (place b n m) L
      by true e = rw (place_kept n m (not_back m n (b n m) refl e))
      by false e =
          let f = o.either m n (λ z. omega arith) e in
          let g = place_moved n m f in
          let i = place_most n n m f in
          ltb_same (place b (suc n) m) L (place b n m) L (λ x. omega arith) (λ x. absurd (omega arith))

  -- If the new member n has a place below L, the others below L are those that were below L − 1.
  among : (n L m : ℕ) → place b n n < L → m < n → ltb (place b (suc n) m) L ≡ ltb (place b n m) (L - 1)
  among n L m h l = by (b m n) refl
    where
      by : (t : Bool) → b m n ≡ t → ltb (place b (suc n) m) L ≡ ltb (place b n m) (L - 1)
      by true e =
          let g = place_kept n m (not_back m n (b n m) refl e) in
          let i = place_less n m n l e in
          ltb_same (place b (suc n) m) L (place b n m) (L - 1) (λ x. omega arith) (λ x. omega arith)
      by false e =
          let g = place_moved n m (o.either m n (λ z. omega arith) e) in
          ltb_same (place b (suc n) m) L (place b n m) (L - 1) (λ x. omega arith) (λ x. omega arith)

  -- how many of n members have a place below L among the first k
  abbrev placed : ℕ → ℕ → ℕ → ℕ
  placed n k L = count_below n (λ (m : ℕ). ltb (place b k m) L)

  -- of n members, exactly L have a place below L
  places : (n L : ℕ) → L ≤ n → placed n n L ≡ L
  unfolding count_below
  places zero L h = omega arith
  places (suc n) L h =
      rw (place_kept n n (o.alone n)) (by (ltb (place b n n) L) refl (λ M l. places n M l))
    where
      by : (t : Bool) → ltb (place b n n) L ≡ t → ((M : ℕ) → M ≤ n → placed n n M ≡ M) → more t (placed n (suc n) L) ≡ L
      by true e ih =
          let l = ltb-true (place b n n) L e in
          let s : placed n (suc n) L ≡ placed n n (L - 1) =
          count_same n (λ (m : ℕ). ltb (place b (suc n) m) L) (λ (m : ℕ). ltb (place b n m) (L - 1))
          (λ m k. among n L m l k) in
          let i = ih (L - 1) (omega arith) in
          omega arith
      by false e ih =
          let l = ltb-false (place b n n) L e in
          let w = place_within n n in
          count_same n (λ (m : ℕ). ltb (place b (suc n) m) L) (λ (m : ℕ). ltb (place b n m) L) (λ m k. behind n L m l k)
          ∙ ih L (omega arith)

-- k comes before m: it has the larger remainder, or the same remainder and the lower number
abbrev pub Ahead : (ℕ → ℕ) → ℕ → ℕ → Type 0
Ahead r k m = (r m < r k) ⊎ ((r k ≡ r m) × (k < m))

-- where the test holds, k comes before m
pub ahead : (r : ℕ → ℕ) (k m : ℕ) → comes_before r k m ≡ true → Ahead r k m
unfolding comes_before
ahead r k m =
    lesser_case (λ t. t ≡ true → Ahead r k m) (r m) (r k) (ltb k m)
    (λ l h. inl l)
    (λ l h. absurd (never h))
    (λ e h. inr (sym e, ltb-true k m h))

-- where k comes before m, the test holds
pub comes_first : (r : ℕ → ℕ) (k m : ℕ) → Ahead r k m → comes_before r k m ≡ true
unfolding comes_before
comes_first r k m w =
    ⊎_elim
    (λ (l : r m < r k). rw (lt-ltb (r m) (r k) l))
    (λ (l : (r k ≡ r m) × (k < m)).
    rw (le-ltb (r m) (r k) (omega arith), le-ltb (r k) (r m) (omega arith), lt-ltb k m l.1))
    w

not_true : (t : Bool) → (t ≡ true → ⊥) → t ≡ false
not_true true h = absurd (h refl)
not_true false h = refl

-- the order for a cent is a strict order in which one of any two members comes before the other
pub comes_before_ranks : (r : ℕ → ℕ) → Ranking (comes_before r)
comes_before_ranks r = record {
  alone = λ k. not_true (comes_before r k k) (λ e. ⊎_elim (λ l. omega arith) (λ l. omega arith) (ahead r k k e));
  either = λ k m d e. comes_first r m k (other k m d (λ w. never (sym e ∙ comes_first r k m w)));
  onward = λ i j k e f. comes_first r i k (through i j k (ahead r i j e) (ahead r j k f));
}
  where
    smaller : (k m : ℕ) → (Ahead r k m → ⊥) → r k ≤ r m
    smaller k m n = ⊎_elim (λ (l : r m < r k). absurd (n (inl l))) (λ (l : r k ≤ r m). l) (below_or_not (r m) (r k))

    higher : (k m : ℕ) → (k ≡ m → ⊥) → (Ahead r k m → ⊥) → r k ≡ r m → m < k
    higher k m d n e = ⊎_elim (λ (l : k < m). absurd (n (inr (e, l)))) (λ (l : m ≤ k). omega arith) (below_or_not k m)

    other : (k m : ℕ) → (k ≡ m → ⊥) → (Ahead r k m → ⊥) → Ahead r m k
    other k m d n =
        let s = smaller k m n in
        ⊎_elim
        (λ (l : r k < r m). inl l)
        (λ (l : r m ≤ r k). let e : r k ≡ r m = omega arith in inr (sym e, higher k m d n e))
        (below_or_not (r k) (r m))

    through : (i j k : ℕ) → Ahead r i j → Ahead r j k → Ahead r i k
    through i j k v w =
        ⊎_elim
        (λ (x : r j < r i). ⊎_elim (λ y. inl (omega arith)) (λ y. inl (omega arith)) w)
        (λ (x : (r i ≡ r j) × (i < j)). ⊎_elim (λ y. inl (omega arith)) (λ y. inr (omega arith, omega arith)) w)
        v

-- of the 32 members, exactly L have a rank below L
pub ranks_below : (r : ℕ → ℕ) (L : ℕ) → L ≤ member_count → count_below member_count (λ (m : ℕ). ltb (rank r m) L) ≡ L
unfolding rank place
ranks_below r L h = places (comes_before r) (comes_before_ranks r) member_count L h

-- a member that comes before another has the lower rank
pub rank_lower : (r : ℕ → ℕ) (k m : ℕ) → k < member_count → comes_before r k m ≡ true → rank r k < rank r m
unfolding rank place
rank_lower r k m l h = place_less (comes_before r) (comes_before_ranks r) member_count k m l h

-- a member with the lower rank comes before the other
pub rank_first : (r : ℕ → ℕ) (k m : ℕ) → m < member_count → rank r k < rank r m → comes_before r k m ≡ true
rank_first r k m l h = by (comes_before r k m) refl
  where
    by : (t : Bool) → comes_before r k m ≡ t → comes_before r k m ≡ true
    by true e = e
    by false e =
        let f = (comes_before_ranks r).either k m (λ z. let q = ap (rank r) z in omega arith) e in
        let g = rank_lower r m k l f in
        absurd (omega arith)

-- a rank depends on the remainders of the 32 members alone
pub rank_same : (r s : ℕ → ℕ) → ((k : ℕ) → k < member_count → r k ≡ s k) → (m : ℕ) → m < member_count → rank r m ≡ rank s m
unfolding rank comes_before
rank_same r s h m l =
    count_same member_count (λ (k : ℕ). comes_before r k m) (λ (k : ℕ). comes_before s k m) (λ k i. rw (h k i, h m l))
