-- What `map` of an array and `array::from_fn` return, where no call of the closure changes what it captures.
use Rattle.std.proofs.Common.{◌≡◌, ℕ, zero, suc, ◌+◌, ◌<◌, List, [], ◌∷◌, map, length, get_or, sym, subst, ◌∙◌, arith}
use Rattle.std.specs.Array.{index_steps, IsFromFnResult, IsFromFnResultFrom, IsMapOf, MapsFrom}
use Rattle.std.specs.Fn.{Called}
use Rattle.std.specs.Iterator.{CallableAtEachTurn}
use Rattle.std.specs.List.{FoldsTo}
use Rattle.std.proofs.lemmas.List.{get_or-map, length-map}
use denote.Param.Members.{Mut}
use lib.Seq.{ext_get_or}
use Rattle.basics.proofs.Tables.{is_table}
use Rattle.basics.specs.Lists.{table}

module _ {F A B : Type 0} (g : Mut F (A × Unit {0}) B) (h : A → B) (f : F)
    (gives : (x : A) (y : B) (q : F) → Called g f (x, tt) y q → (q ≡ f) × (y ≡ h x)) (xs : List A) (ys : List B) where
  mapped_at : (n i : ℕ) (p : F) → p ≡ f → MapsFrom g p xs ys i n →
      (k j : ℕ) (d : A) (e : B) → k < n → j ≡ i + k → get_or ys j e ≡ h (get_or xs j d)
  mapped_at zero i p same m k j d e l s = absurd (omega arith)
  mapped_at (suc n) i p same m zero j d e l s =
      let c = gives m.1 m.2 m.0 (subst (λ (q : F). Called g q (m.1, tt) m.2 m.0) same m.5) in
      let z : j ≡ i = omega arith in
      rw (z, m.3.1 d, m.4.1 e) c.1
  mapped_at (suc n) i p same m (suc k) j d e l s =
      let c = gives m.1 m.2 m.0 (subst (λ (q : F). Called g q (m.1, tt) m.2 m.0) same m.5) in
      mapped_at n (i + 1) m.0 c.0 m.6 k j d e (omega arith) (omega arith)

-- what `map` returns of an array xs; d stands for an element that it does not have
pub mapped_is : {F A B : Type 0} {g : Mut F (A × Unit {0}) B} {f : F} {xs : List A} {ys : List B} {n : ℕ} (h : A → B) (d : A) →
    ((x : A) (y : B) (q : F) → Called g f (x, tt) y q → (q ≡ f) × (y ≡ h x)) → length xs ≡ n → IsMapOf g f xs ys n → ys ≡ map h xs
mapped_is {g = g} {f = f} {xs = xs} {ys = ys} {n = n} h d gives size m =
    ext_get_or (h d) ys (map h xs) (m.long ∙ sym size ∙ sym (length-map xs h))
    (λ k l. mapped_at g h f gives xs ys n 0 f (λ i. f) m.each k k d (h d) (omega (arith, m.long)) (omega arith)
    ∙ sym (get_or-map h xs k d (h d) (omega (arith, m.long))))

module _ {F B : Type 0} (g : Mut F (ℕ × Unit {0}) B) (h : ℕ → B) (f : F)
    (gives : (x : ℕ) (y : B) (q : F) → Called g f (x, tt) y q → (q ≡ f) × (y ≡ h x)) (ys : List B) where
  made_at : (n i : ℕ) (p : F) → p ≡ f → IsFromFnResultFrom g p ys i n →
      (k j : ℕ) (e : B) → k < n → j ≡ i + k → get_or ys j e ≡ h j
  made_at zero i p same m k j e l s = absurd (omega arith)
  made_at (suc n) i p same m zero j e l s =
      let c = gives i m.1 m.0 (subst (λ (q : F). Called g q (i, tt) m.1 m.0) same m.3) in
      let z : j ≡ i = omega arith in
      rw (z, m.2.1 e) c.1
  made_at (suc n) i p same m (suc k) j e l s =
      let c = gives i m.1 m.0 (subst (λ (q : F). Called g q (i, tt) m.1 m.0) same m.3) in
      made_at n (i + 1) m.0 c.0 m.4 k j e (omega arith) (omega arith)

-- What `from_fn` returns is the table of t, where the closure gives what t says of each index below n.
pub made_is : {F B : Type 0} {g : Mut F (ℕ × Unit {0}) B} {f : F} {ys : List B} {n : ℕ} (h t : ℕ → B) →
    ((x : ℕ) (y : B) (q : F) → Called g f (x, tt) y q → (q ≡ f) × (y ≡ h x)) → ((k : ℕ) → k < n → h k ≡ t k) →
    IsFromFnResult g f ys n → ys ≡ table n t
made_is {g = g} {f = f} {ys = ys} {n = n} h t gives same m =
    is_table n t ys (t 0) m.long (λ k l. made_at g h f gives ys n 0 f (λ i. f) m.each k k (t 0) l (omega arith) ∙ same k l)

unmoved : {P A : Type 0} (R : P → A → P → Type 0) (p : P) → ((x : A) (q : P) → R p x q → q ≡ p) → (xs : List A) (q r : P) → q ≡ p → FoldsTo R q xs r → r ≡ p
unmoved R p stays [] q r e c = sym c ∙ e
unmoved {P = P} R p stays (x ∷ xs) q r e c =
    unmoved R p stays xs c.0 r (stays x c.0 (subst (λ (s : P). R s x c.0) e c.1)) c.2

-- what `from_fn` may ask of its closure: only the indices below n
pub asked_below : {P : Type 0} {R : P → ℕ → P → Type 0} {Q : P → ℕ → Type 0} {n : ℕ} {p : P} →
    ((x : ℕ) (q : P) → R p x q → q ≡ p) → ((x : ℕ) → x < n → Q p x) → CallableAtEachTurn (index_steps n) R Q 0 p
asked_below {P = P} {R = R} {Q = Q} {p = p} stays may = record {
  at = λ xs t q x u y c e. subst (λ (s : P). Q s x) (sym (unmoved R p stays xs p q (λ i. p) c)) (may x (omega (arith, e.0, e.1)));
}
