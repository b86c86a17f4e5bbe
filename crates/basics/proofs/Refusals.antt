-- What an answer number means: it is n exactly where n's condition holds and no smaller number's does.
use Prim.Native.Nat.{ℕ, ◌<◌}
use native.Mathlib.Omega.{arith}
use mathlib.Core.Path.{◌≡◌, refl, sym, ap, ◌∙◌}
use mathlib.Core.Bool.{Bool, true, false, ◌&&◌}
use mathlib.Core.Logic.{◌↔◌}
use mathlib.Core.List.{List, [], ◌∷◌, ◌++◌, Memᴰ}
use lib.Dec.{eqb, ltb}
use borrow.Author.Tests.{eqb-true, eqb-false, ne_eqb, ltb-true}
use Rattle.basics.specs.Choice.{pick}
use Rattle.basics.specs.Lists.{Every, Sorted}
use Rattle.basics.specs.Lists.Every.{nobody, also}
use Rattle.basics.specs.Lists.Sorted.{empty, ahead}
use Rattle.basics.specs.Refusals.{Refusal, refuse, answer, outcome}
use Rattle.basics.proofs.Cases.{never, pick_case, and_true}
use Rattle.basics.proofs.Everywhere.{every_map, every_member}

-- ---- reading a list of refusals from the front
-- a condition that does not hold is passed
pub pass : (n : ℕ) {t : Bool} (rs : List Refusal) → t ≡ false → answer (refuse n t ∷ rs) ≡ answer rs
unfolding answer
pass n rs e = rw e

-- the first that holds is given
pub stop : (n : ℕ) {t : Bool} (rs : List Refusal) → t ≡ true → answer (refuse n t ∷ rs) ≡ n
unfolding answer
stop n rs e = rw e

pub all_passed : answer [] ≡ 0
unfolding answer
all_passed = refl

-- a call that is done
pub done_by : {A : Type 0} (rs : List Refusal) (done : A) (refused : ℕ → A) → answer rs ≡ 0 → done ≡ outcome (answer rs) done refused
done_by rs done refused e = rw e

-- a call that is refused by k
pub refused_by : {A : Type 0} (k : ℕ) (rs : List Refusal) (done : A) (refused : ℕ → A) → answer rs ≡ k → eqb k 0 ≡ false → refused k ≡ outcome (answer rs) done refused
refused_by k rs done refused e f = rw (e, f)

-- a call that is refused by a number that was worked out
pub refused_with : {A : Type 0} (n : ℕ) (rs : List Refusal) (done : A) (refused : ℕ → A) → answer rs ≡ n → (n ≡ 0 → ⊥) → refused n ≡ outcome (answer rs) done refused
refused_with n rs done refused e z = refused_by n rs done refused e (ne_eqb n 0 z)

-- a refusal that an accepted call passed: its condition does not hold, nor does any after it
pub passed : (n : ℕ) (t : Bool) (rs : List Refusal) → answer (refuse n t ∷ rs) ≡ 0 → eqb n 0 ≡ false → (t ≡ false) × (answer rs ≡ 0)
unfolding answer
passed n t rs = by t
  where
    by : (u : Bool) → pick u n (answer rs) ≡ 0 → eqb n 0 ≡ false → (u ≡ false) × (answer rs ≡ 0)
    by true e f = absurd (eqb-false n 0 f e)
    by false e f = (refl, e)

-- what holds of a call refused by its number, and of one that is done, holds of its outcome
pub by_number : {A : Type 0} (P : A → Type 0) (n : ℕ) (done : A) (refused : ℕ → A) →
    ((n ≡ 0 → ⊥) → P (refused n)) → (n ≡ 0 → P done) → P (outcome n done refused)
by_number P n done refused f g = pick_case P (eqb n 0) done (refused n) (λ e. g (eqb-true n 0 e)) (λ e. f (eqb-false n 0 e))

-- so too of two things that go by the same number
pub by_number₂ : {A B : Type 0} (P : A → B → Type 0) (n : ℕ) (done : A) (refused : ℕ → A) (done' : B) (refused' : ℕ → B) →
    ((n ≡ 0 → ⊥) → P (refused n) (refused' n)) → (n ≡ 0 → P done done') → P (outcome n done refused) (outcome n done' refused')
by_number₂ P n done refused done' refused' f g = by (eqb n 0) refl
  where
    by : (t : Bool) → eqb n 0 ≡ t → P (pick t done (refused n)) (pick t done' (refused' n))
    by true e = g (eqb-true n 0 e)
    by false e = f (eqb-false n 0 e)

-- so too where it holds of a call refused by whatever number
pub outcome_case : {A : Type 0} (P : A → Type 0) (rs : List Refusal) (done : A) (refused : ℕ → A) →
    ((n : ℕ) → P (refused n)) → (answer rs ≡ 0 → P done) → P (outcome (answer rs) done refused)
outcome_case P rs done refused f g = by_number P (answer rs) done refused (λ z. f (answer rs)) g

-- ---- the law
-- refusals as the rules print them: rising numbers, none of them 0
pub record Printed (rs : List Refusal) : Type 0 where
  pub rising : Sorted (λ r s. r.number < s.number) rs
  pub some : Every (λ r. 0 < r.number) rs

-- numbers above k that rise: a test that is worked out from the numbers alone
abbrev pub rising_from : ℕ → List Refusal → Bool
rising_from k [] = true
rising_from k (r ∷ rs) = ltb k r.number && rising_from r.number rs

rising_above : (k : ℕ) (rs : List Refusal) → rising_from k rs ≡ true → Every (λ r. k < r.number) rs
rising_above k [] e = nobody
rising_above k (r ∷ rs) e =
    let both = and_true (ltb k r.number) (rising_from r.number rs) e in
    let h = ltb-true k r.number both.0 in
    also h (every_map (λ (x : Refusal) (l : r.number < x.number). less l h) (rising_above r.number rs both.1))
  where
    less : {a b c : ℕ} → b < c → a < b → a < c
    less x y = omega arith

rising_sorted : (k : ℕ) (rs : List Refusal) → rising_from k rs ≡ true → Sorted (λ r s. r.number < s.number) rs
rising_sorted k [] e = empty
rising_sorted k (r ∷ rs) e =
    let both = and_true (ltb k r.number) (rising_from r.number rs) e in
    ahead (rising_above r.number rs both.1) (rising_sorted r.number rs both.1)

pub is_printed : (rs : List Refusal) → rising_from 0 rs ≡ true → Printed rs
is_printed rs e = record { rising = rising_sorted 0 rs e; some = rising_above 0 rs e }

-- n's condition holds, and the condition of no smaller number does
pub record Smallest (rs : List Refusal) (n : ℕ) : Type 0 where
  pub it : Refusal
  pub listed : Memᴰ it rs
  pub number : it.number ≡ n
  pub holds : it.holds ≡ true
  pub least : Every (λ r. r.number < n → r.holds ≡ false) rs

-- no condition holds
abbrev pub NoneHolds : List Refusal → Type 0
NoneHolds rs = Every (λ r. r.holds ≡ false) rs

-- the answer is 0 exactly where no condition holds
none_holds : (rs : List Refusal) → Every (λ r. 0 < r.number) rs → answer rs ≡ 0 → NoneHolds rs
unfolding answer
none_holds [] s e = nobody
none_holds (r ∷ rs) (also p s) e = by r.holds refl e (none_holds rs s)
  where
    by : (t : Bool) → r.holds ≡ t → pick t r.number (answer rs) ≡ 0 → (answer rs ≡ 0 → NoneHolds rs) → NoneHolds (r ∷ rs)
    by true t q f = absurd (omega arith)
    by false t q f = also t (f q)

none_given : (rs : List Refusal) → NoneHolds rs → answer rs ≡ 0
unfolding answer
none_given [] h = refl
none_given (r ∷ rs) (also p h) = rw p (none_given rs h)

pub answer_zero : (rs : List Refusal) → Printed rs → (answer rs ≡ 0) ↔ NoneHolds rs
answer_zero rs p = (none_holds rs p.some, none_given rs)

abbrev Rising : List Refusal → Type 0
Rising rs = Sorted (λ r s. r.number < s.number) rs

smallest_given : (rs : List Refusal) (n : ℕ) → Rising rs → (it : Refusal) → Memᴰ it rs → it.number ≡ n → it.holds ≡ true →
    Every (λ r. r.number < n → r.holds ≡ false) rs → answer rs ≡ n
unfolding answer
smallest_given [] n s it m en eh l = elim m [ ]
smallest_given (r ∷ rs) n (ahead a s) it (Memᴰ.head e) en eh l = rw (sym (ap (λ (x : Refusal). x.holds) e) ∙ eh) (sym (ap (λ (x : Refusal). x.number) e) ∙ en)
smallest_given (r ∷ rs) n (ahead a s) it (Memᴰ.tail m) en eh (also l ls) =
    let h : r.number < it.number = every_member (λ (x : Refusal). r.number < x.number) a m in
    rw (l (omega arith)) (smallest_given rs n s it m en eh ls)

given_smallest : (rs : List Refusal) (n : ℕ) → Rising rs → answer rs ≡ n → (n ≡ 0 → ⊥) → Smallest rs n
unfolding answer
given_smallest [] n s e z = absurd (z (sym e))
given_smallest (r ∷ rs) n (ahead a s) e z = by r.holds refl e (λ q. given_smallest rs n s q z)
  where
    by : (t : Bool) → r.holds ≡ t → pick t r.number (answer rs) ≡ n → (answer rs ≡ n → Smallest rs n) → Smallest (r ∷ rs) n
    by true t q f = record {
      it = r;
      listed = Memᴰ.head refl;
      number = q;
      holds = t;
      least = also (λ (l : r.number < n). absurd (omega arith)) (every_map (λ (x : Refusal) (b : r.number < x.number) (l : x.number < n). absurd (omega arith)) a);
    }
    by false t q f =
        let g = f q in
        record { it = g.it; listed = Memᴰ.tail g.listed; number = g.number; holds = g.holds; least = also (λ l. t) g.least }

-- the answer is n exactly where n's condition holds and no smaller number's does
pub answer_number : (rs : List Refusal) (n : ℕ) → Printed rs → (n ≡ 0 → ⊥) → (answer rs ≡ n) ↔ Smallest rs n
answer_number rs n p z = (
  λ e. given_smallest rs n p.rising e z,
  λ h. smallest_given rs n p.rising h.it h.listed h.number h.holds h.least,
)

-- ---- refusals ahead of others
-- a list that refuses by n does so whatever comes after it
pub refused_ahead : (rs more : List Refusal) (n : ℕ) → answer rs ≡ n → (n ≡ 0 → ⊥) → answer (rs ++ more) ≡ n
unfolding answer
refused_ahead [] more n e z = absurd (z (sym e))
refused_ahead (r ∷ rs) more n e z = by r.holds e (λ q. refused_ahead rs more n q z)
  where
    by : (t : Bool) → pick t r.number (answer rs) ≡ n → (answer rs ≡ n → answer (rs ++ more) ≡ n) → pick t r.number (answer (rs ++ more)) ≡ n
    by true q f = q
    by false q f = f q

-- a list that refuses nothing leaves the answer to those after it
pub passed_ahead : (rs more : List Refusal) → Every (λ r. 0 < r.number) rs → answer rs ≡ 0 → answer (rs ++ more) ≡ answer more
unfolding answer
passed_ahead [] more s e = refl
passed_ahead (r ∷ rs) more (also p s) e = by r.holds e (passed_ahead rs more s)
  where
    by : (t : Bool) → pick t r.number (answer rs) ≡ 0 → (answer rs ≡ 0 → answer (rs ++ more) ≡ answer more) →
        pick t r.number (answer (rs ++ more)) ≡ answer more
    by true q f = absurd (omega arith)
    by false q f = f q

-- an accepted call passed the list ahead and those after it
pub ahead_passed : (rs more : List Refusal) → Every (λ r. 0 < r.number) rs → answer (rs ++ more) ≡ 0 → (answer rs ≡ 0) × (answer more ≡ 0)
unfolding answer
ahead_passed [] more s e = (refl, e)
ahead_passed (r ∷ rs) more (also p s) e = by r.holds e (ahead_passed rs more s)
  where
    by : (t : Bool) → pick t r.number (answer (rs ++ more)) ≡ 0 → (answer (rs ++ more) ≡ 0 → (answer rs ≡ 0) × (answer more ≡ 0)) →
        (pick t r.number (answer rs) ≡ 0) × (answer more ≡ 0)
    by true q f = absurd (omega arith)
    by false q f = f q

-- ---- a call that answers by a list of refusals
pub record Refuses (rs : List Refusal) (number : ℕ) : Type 0 where
  pub printed : Printed rs
  pub given : number ≡ answer rs

-- it answers n exactly where n's condition holds and no smaller number's does, and is done exactly where none holds
pub refuses_by : (rs : List Refusal) (number : ℕ) → Refuses rs number → (n : ℕ) → (n ≡ 0 → ⊥) → (number ≡ n) ↔ Smallest rs n
refuses_by rs number r n z =
    let f = answer_number rs n r.printed z in
    (λ e. f.0 (sym r.given ∙ e), λ s. r.given ∙ f.1 s)

pub refuses_none : (rs : List Refusal) (number : ℕ) → Refuses rs number → (number ≡ 0) ↔ NoneHolds rs
refuses_none rs number r =
    let f = answer_zero rs r.printed in
    (λ e. f.0 (sym r.given ∙ e), λ s. r.given ∙ f.1 s)

-- it does not answer a number whose condition does not hold
pub never_given : (rs : List Refusal) (number n : ℕ) → Refuses rs number → (n ≡ 0 → ⊥)
    → Every (λ r. r.number ≡ n → r.holds ≡ false) rs → number ≡ n → ⊥
never_given rs number n r z fails e =
    let s = (refuses_by rs number r n z).0 e in
    never (sym (every_member (λ (x : Refusal). x.number ≡ n → x.holds ≡ false) fails s.listed s.number) ∙ s.holds)

-- the number of an outcome is that of its list
pub outcome_refuses : {A : Type 0} (number : A → ℕ) (rs : List Refusal) (done : A) (refused : ℕ → A) → rising_from 0 rs ≡ true →
    number done ≡ 0 → ((n : ℕ) → number (refused n) ≡ n) → Refuses rs (number (outcome (answer rs) done refused))
outcome_refuses number rs done refused p d r = record { printed = is_printed rs p; given = by (eqb (answer rs) 0) refl }
  where
    by : (t : Bool) → eqb (answer rs) 0 ≡ t → number (pick t done (refused (answer rs))) ≡ answer rs
    by true e = d ∙ sym (eqb-true (answer rs) 0 e)
    by false e = r (answer rs)
