-- The lines of a Close: what they say of an obligation is what the Close moves of it.
use Rattle.std.specs.Prelude.{Some}
use Prim.Native.Nat.{ℕ, zero, suc, ◌+◌, ◌≤◌, ◌<◌}
use native.Mathlib.Omega.{arith}
use native.Mathlib.Nat.{zero-add}
use mathlib.Core.Path.{◌≡◌, refl, sym, ap, ◌∙◌}
use mathlib.Core.Bool.{Bool, true, false, ◌&&◌}
use mathlib.Core.Logic.{⊎_elim}
use mathlib.Core.List.{List, [], ◌∷◌, ◌++◌, append-nil}
use lib.Dec.{eqb}
use lib.ListN.{get_or}
use borrow.Author.Tests.{eq-eqb, ne_eqb}
use Rattle.basics.specs.Choice.{pick}
use Rattle.basics.specs.Lists.{total, Every}
use Rattle.basics.specs.Lists.Every.{nobody, also}
use Rattle.basics.proofs.Cases.{pick_case, and_no, last_or_below}
use Rattle.basics.proofs.Everywhere.{every_map, every_append}
use Rattle.basics.proofs.Sums.{total_append}
use Rattle.offers.specs.declared.Offer.{Offer}
use Rattle.offers.specs.declared.Given.{Given}
use Rattle.offers.specs.BuyIn.{given}
use Rattle.ledger.specs.declared.Part.{Part}
use Rattle.ledger.specs.declared.Part.TheVariants.{BoughtIn, Compensated}
use Rattle.ledger.specs.Parts.{part_of, same_part}
use Rattle.ledger.proofs.Moving.{part_moved}
use Rattle.ledger.specs.declared.Obligation.{Obligation}
use Rattle.ledger.specs.Obligations.{no_obligation, age_by, is_due, moving}
use Rattle.closing.specs.declared.DayEnd.{DayEnd}
use Rattle.closing.specs.declared.Line.{Line}
use Rattle.closing.specs.Lines.{penalty_kind, notice_kind, Made, nothing, then}
use Rattle.closing.specs.Stages.{plain_line, priced, penalty_on, penalised, notice_at, bought_from, bought_all, buy_in_at, compensated, compensated_at}
use Rattle.closing.specs.Close.{course, stages, closed_one, closed_at, lines_up_to}
use Rattle.closing.proofs.Parts.{priced_parts, measures}
use Rattle.journal.specs.Facts.{part_of_kind, is_part, quantity_to}
use Rattle.journal.specs.Promise.{Purchase, purchases_in}

-- ---- the lines of one obligation
-- the lines of obligation k among these
abbrev own : ℕ → List Line → List Line
own k [] = []
own k (l ∷ ls) = pick (eqb l.obligation k) (l ∷ own k ls) (own k ls)

own_append : (k : ℕ) (xs ys : List Line) → own k (xs ++ ys) ≡ own k xs ++ own k ys
own_append k [] ys = refl
own_append k (l ∷ xs) ys = rw (own_append k xs ys) (by (eqb l.obligation k))
  where
    by : (t : Bool) → pick t (l ∷ (own k xs ++ own k ys)) (own k xs ++ own k ys) ≡ pick t (l ∷ own k xs) (own k xs) ++ own k ys
    by true = refl
    by false = refl

own_all : (k : ℕ) {ls : List Line} → Every (λ l. l.obligation ≡ k) ls → own k ls ≡ ls
own_all k nobody = refl
own_all k (also {x} {xs} e es) = rw (eq-eqb x.obligation k e) (ap (λ (ls : List Line). x ∷ ls) (own_all k es))

own_none : (k n : ℕ) → (n ≡ k → ⊥) → {ls : List Line} → Every (λ l. l.obligation ≡ n) ls → own k ls ≡ []
own_none k n h nobody = refl
own_none k n h (also {x} {xs} e es) = rw (ne_eqb x.obligation k (λ z. h (sym e ∙ z))) (own_none k n h es)

-- what these lines say of obligation k its own lines say
total_own : (part : Part) (k : ℕ) (ls : List Line) → total (quantity_to part k) ls ≡ total (quantity_to part k) (own k ls)
unfolding total quantity_to
total_own part k [] = refl
total_own part k (l ∷ ls) = by (eqb l.obligation k) refl (total_own part k ls)
  where
    by : (t : Bool) → eqb l.obligation k ≡ t → total (quantity_to part k) ls ≡ total (quantity_to part k) (own k ls) →
        pick (is_part part (part_of_kind l.kind) && eqb l.obligation k) l.quantity 0 + total (quantity_to part k) ls ≡ total (quantity_to part k) (pick t (l ∷ own k ls) (own k ls))
    by true e q = ap (λ (x : ℕ). pick (is_part part (part_of_kind l.kind) && eqb l.obligation k) l.quantity 0 + x) q
    by false e q = rw (e, and_no (is_part part (part_of_kind l.kind))) (zero-add (total (quantity_to part k) ls) ∙ q)

purchases_own : (k : ℕ) (ls : List Line) → purchases_in k ls ≡ purchases_in k (own k ls)
unfolding purchases_in
purchases_own k [] = refl
purchases_own k (l ∷ ls) = by (eqb l.obligation k) refl (purchases_own k ls)
  where
    p : Purchase
    p = record { quantity = l.quantity; supplier = l.supplier; price = l.price }

    bought : Bool
    bought = is_part BoughtIn (part_of_kind l.kind)

    by : (t : Bool) → eqb l.obligation k ≡ t → purchases_in k ls ≡ purchases_in k (own k ls) →
        pick (bought && eqb l.obligation k) (p ∷ purchases_in k ls) (purchases_in k ls) ≡ purchases_in k (pick t (l ∷ own k ls) (own k ls))
    by true e q = ap (λ (ps : List Purchase). pick (bought && eqb l.obligation k) (p ∷ ps) ps) q
    by false e q = rw (e, and_no bought) q

-- ---- one obligation
-- what a Close of one obligation moves to each part is what its lines say
abbrev pub Moved : ℕ → Obligation → Made → Type 0
Moved n o m = (k : Part) → part_of k m.obligation.parts ≡ part_of k o.parts + total (quantity_to k n) m.lines

-- a line of obligation n that is no penalty
pub record Behind (n : ℕ) (l : Line) : Type 0 where
  pub own : l.obligation ≡ n
  pub no_penalty : eqb l.kind penalty_kind ≡ false

-- what a part of a Close does that comes after the penalty
pub record Behaves (n : ℕ) (o : Obligation) (m : Made) : Type 0 where
  pub moved : Moved n o m
  pub behind : Every (Behind n) m.lines

module _ (n : ℕ) where
  -- lines of other kinds, with parts as they were
  moved_none : (o p : Obligation) (ls : List Line) → p.parts ≡ o.parts → ((k : Part) → total (quantity_to k n) ls ≡ 0) →
      Moved n o (record { obligation = p; lines = ls })
  moved_none o p ls e x k = ap (part_of k) e ∙ omega (arith, x k)

  -- a line that says what became part j of the obligation
  moved_line : (o : Obligation) (j : Part) (l : Line) → l.obligation ≡ n → part_of_kind l.kind ≡ Some j →
      Moved n o (record { obligation = moving j l.quantity o; lines = l ∷ [] })
  unfolding moving total quantity_to
  moved_line o j l own says k =
      part_moved k j l.quantity o.parts ∙ rw (says, eq-eqb l.obligation n own) (by (same_part k j))
    where
      by : (t : Bool) → pick t (part_of k o.parts + l.quantity) (part_of k o.parts) ≡ part_of k o.parts + (pick (t && true) l.quantity 0 + 0)
      by true = omega arith
      by false = omega arith

  -- what two parts move is what the lines of both say
  moved_then : (o : Obligation) (m : Made) (f : Obligation → Made) → Moved n o m → Moved n m.obligation (f m.obligation) → Moved n o (then m f)
  unfolding then
  moved_then o m f a b k = omega (arith, a k, b k, total_append (quantity_to k n) m.lines (f m.obligation).lines)

  part_nothing : (o : Obligation) → Behaves n o (nothing o)
  unfolding total
  part_nothing o = record { moved = moved_none o o [] refl (λ k. refl); behind = nobody }

  part_then : (o : Obligation) (m : Made) (f : Obligation → Made) → Behaves n o m → Behaves n m.obligation (f m.obligation) → Behaves n o (then m f)
  unfolding then
  part_then o m f a b = record { moved = moved_then o m f a.moved b.moved; behind = every_append a.behind b.behind }

  notice_part : (comes : Bool) (o : Obligation) → Behaves n o (notice_at comes n o)
  unfolding notice_at total quantity_to
  notice_part comes o =
      pick_case (Behaves n o) comes _ _
      (λ e. record { moved = moved_none o o (plain_line notice_kind n o.parts.outstanding 0 ∷ []) refl (λ k. refl); behind = also (record { own = refl; no_penalty = refl }) nobody })
      (λ e. part_nothing o)

  bought_from_part : (g : Given) (o : Obligation) → Behaves n o (bought_from n g o)
  unfolding bought_from
  bought_from_part g o = record { moved = moved_line o BoughtIn _ refl refl; behind = also (record { own = refl; no_penalty = refl }) nobody }

  bought_part : (gs : List Given) (o : Obligation) → Behaves n o (bought_all n gs o)
  unfolding bought_all
  bought_part [] o = part_nothing o
  bought_part (g ∷ gs) o =
      part_then o (bought_from n g o) (bought_all n gs) (bought_from_part g o) (bought_part gs (bought_from n g o).obligation)

  buy_in_part : (comes : Bool) (offers : List Offer) (o : Obligation) → Behaves n o (buy_in_at comes offers n o)
  unfolding buy_in_at
  buy_in_part comes offers o =
      pick_case (Behaves n o) comes _ _
      (λ e. bought_part (given n o.parts.outstanding offers) o)
      (λ e. part_nothing o)

  compensated_part : (price : ℕ) (o : Obligation) → Behaves n o (compensated price n o)
  unfolding compensated
  compensated_part price o =
      pick_case (Behaves n o) (eqb o.parts.outstanding 0) _ _
      (λ e. part_nothing o)
      (λ e. record { moved = moved_line o Compensated _ refl refl; behind = also (record { own = refl; no_penalty = refl }) nobody })

  compensated_at_part : (comes : Bool) (price : ℕ) (o : Obligation) → Behaves n o (compensated_at comes price n o)
  unfolding compensated_at
  compensated_at_part comes price o = pick_case (Behaves n o) comes _ _ (λ e. compensated_part price o) (λ e. part_nothing o)

-- ---- all parts of a Close together
-- what stays with each part that comes after the penalty
abbrev pub Stays : ℕ → (Made → Type 0) → Type 0
Stays n P = (x : Made) (f : Obligation → Made) → P x → Behaves n x.obligation (f x.obligation) → P (then x f)

module _ (d : DayEnd) (offers : List Offer) (n : ℕ) (o : Obligation) where
  -- the first part, at an age
  abbrev pub fine : ℕ → Made
  fine age = penalised n (penalty_on d o) (priced d.setup.terms age d.price o)

  -- what holds of the penalty and stays holds of all parts
  stages_by : (P : Made → Type 0) → Stays n P → (age : ℕ) → P (fine age) → P (stages d age offers n o)
  unfolding stages course
  stages_by P more age p =
      let m = measures d age offers n o in
      let noticed : Made = then (fine age) (notice_at m.notice n) in
      let bought : Made = then noticed (buy_in_at m.buy_in offers n) in
      let q = more (fine age) (notice_at m.notice n) p (notice_part n m.notice (fine age).obligation) in
      let r = more noticed (buy_in_at m.buy_in offers n) q (buy_in_part n m.buy_in offers noticed.obligation) in
      more bought (compensated_at m.compensation d.price n) r (compensated_at_part n m.compensation d.price bought.obligation)

  -- a fact of a Close, by whether the obligation is due
  pub closed_by : (P : Bool → Made → Type 0) → Stays n (P true) → ((age : ℕ) → P true (fine age)) → P false (nothing o) → P (is_due d.today o) (closed_one d offers n o)
  unfolding closed_one
  closed_by P more p q = by (is_due d.today o) (age_by d.setup d.today o)
    where
      by : (t : Bool) (age : ℕ) → P t (pick t (stages d age offers n o) (nothing o))
      by true age = stages_by (P true) more age (p age)
      by false age = q

  -- what it moves is what its lines say
  pub closed_moved : Moved n o (closed_one d offers n o)
  unfolding penalised total quantity_to
  closed_moved =
      closed_by (λ t. Moved n o) (λ x f a p. moved_then n o x f a p.moved)
      (λ age. moved_none n o (fine age).obligation (fine age).lines (priced_parts d.setup.terms age d.price o) (λ k. refl))
      (part_nothing n o).moved

  -- its lines are of its own obligation
  closed_own : Every (λ l. l.obligation ≡ n) (closed_one d offers n o).lines
  unfolding then penalised
  closed_own =
      closed_by (λ t (x : Made). Every (λ l. l.obligation ≡ n) x.lines)
      (λ x f a p. every_append a (every_map (λ (l : Line) (b : Behind n l). b.own) p.behind))
      (λ age. also refl nobody)
      nobody

-- ---- all obligations
module _ (d : DayEnd) (offers : List Offer) (os : List Obligation) where
  -- of all lines, none is of an obligation that is after them
  own_behind : (n k : ℕ) → n ≤ k → own k (lines_up_to d offers os n) ≡ []
  unfolding lines_up_to
  own_behind zero k h = refl
  own_behind (suc n) k h =
      own_append k (lines_up_to d offers os n) (closed_at d offers os n).lines
      ∙ rw (own_behind n k (omega arith), own_none k n (omega arith) (closed_own d offers n (get_or os n no_obligation)))

  -- of all lines, those of obligation k are the lines of its own Close
  own_lines : (n k : ℕ) → k < n → own k (lines_up_to d offers os n) ≡ (closed_at d offers os k).lines
  unfolding lines_up_to
  own_lines zero k h = absurd (omega arith)
  own_lines (suc n) k h =
      own_append k (lines_up_to d offers os n) (closed_at d offers os n).lines
      ∙ ⊎_elim
      (λ (q : k ≡ n). rw (own_behind n k (omega arith), ← q) (own_all k (closed_own d offers k (get_or os k no_obligation))))
      (λ (q : k < n).
      rw (own_lines n k q, own_none k n (omega arith) (closed_own d offers n (get_or os n no_obligation))) (append-nil (closed_at d offers os k).lines))
      (last_or_below k n h)

  pub reported_none : (n : ℕ) (part : Part) (k : ℕ) → n ≤ k → total (quantity_to part k) (lines_up_to d offers os n) ≡ 0
  unfolding total
  reported_none n part k h = total_own part k (lines_up_to d offers os n) ∙ rw (own_behind n k h)

  pub reported_one : (n : ℕ) (part : Part) (k : ℕ) → k < n → total (quantity_to part k) (lines_up_to d offers os n) ≡ total (quantity_to part k) (closed_at d offers os k).lines
  reported_one n part k h = total_own part k (lines_up_to d offers os n) ∙ rw (own_lines n k h)

  pub purchases_one : (n k : ℕ) → k < n → purchases_in k (lines_up_to d offers os n) ≡ purchases_in k (closed_at d offers os k).lines
  purchases_one n k h = purchases_own k (lines_up_to d offers os n) ∙ rw (own_lines n k h)
