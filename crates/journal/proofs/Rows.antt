-- What a call does to the obligations of a book, row by row: `Rows`. What a book holds under a number follows a call by one
-- law, `held_step`, whatever it is that the row stores. The rows of a call that leaves them, changes some or adds one are
-- given here; those of a Close are in ClosedRows.
use Rattle.std.specs.Prelude.{None, Some}
use Prim.Native.Nat.{ℕ, ◌+◌, ◌≤◌, ◌<◌}
use native.Mathlib.Omega.{arith}
use native.Mathlib.Nat.{zero-add}
use mathlib.Core.Path.{◌≡◌, refl, sym, subst}
use mathlib.Core.Bool.{Bool, true, false, ◌&&◌, ◌||◌}
use lib.Dec.{ltb, eqb}
use borrow.Author.Tests.{ltb-true, ltb-false}
use Rattle.basics.specs.Choice.{pick}
use Rattle.basics.proofs.Places.{set_case}
use Rattle.ledger.specs.declared.Part.{Part}
use Rattle.ledger.specs.declared.Parts.{Parts}
use Rattle.ledger.specs.declared.Deal.{Deal}
use Rattle.ledger.specs.declared.Obligation.{Obligation}
use Rattle.ledger.specs.Parts.{part_of}
use Rattle.ledger.specs.Obligations.{no_obligation}
use Rattle.ledger.specs.Ledger.{most_obligations, obligation_at, with_obligation, with_new}
use Rattle.ledger.proofs.Keeping.{Later, later_same}
use Rattle.instructions.specs.declared.Legs.{Legs}
use Rattle.book.specs.declared.Book.{Book}
use Rattle.book.specs.Book.{with_legs, with_ledger, age_of, Valid}
use Rattle.journal.specs.Facts.{Instructed, instructs, Facts, is_end, price_of, moved_by}

-- ---- what a book holds
-- what the row of an obligation stores, and z where there is no such obligation
abbrev pub held : {A : Type 0} → (Obligation → A) → A → Book → ℕ → A
held g z b n = pick (ltb n b.ledger.count) (g (obligation_at b.ledger n)) z

-- The law on anything that a row stores: a call makes s of what the book holds under a number. It is shown where the
-- obligation is there before the call, where it is new and where there is none.
pub held_step : {A : Type 0} (g : Obligation → A) (z : A) (b after : Book) (n : ℕ) (s : A → A) → b.ledger.count ≤ after.ledger.count →
    (n < b.ledger.count → g (obligation_at after.ledger n) ≡ s (g (obligation_at b.ledger n))) →
    (b.ledger.count ≤ n → n < after.ledger.count → g (obligation_at after.ledger n) ≡ s z) →
    (after.ledger.count ≤ n → z ≡ s z) →
    held g z after n ≡ s (held g z b n)
held_step g z b after n s more there new absent = by (ltb n b.ledger.count) (ltb n after.ledger.count) refl refl
  where
    by : (t u : Bool) → ltb n b.ledger.count ≡ t → ltb n after.ledger.count ≡ u →
        pick u (g (obligation_at after.ledger n)) z ≡ s (pick t (g (obligation_at b.ledger n)) z)
    by true true p q = there (ltb-true n _ p)
    by true false p q = absurd (omega (arith, more, ltb-true n _ p, ltb-false n _ q))
    by false true p q = new (ltb-false n _ p) (ltb-true n _ q)
    by false false p q = absent (ltb-false n _ q)

-- J4, Whole journals: what an obligation was instructed to be
abbrev pub instructed_from : Deal → Instructed
instructed_from d = record { seller = d.seller; buyer = d.buyer; quantity = d.quantity; day = d.day }

abbrev pub instructed_at : Obligation → Instructed
instructed_at o = instructed_from o.deal

-- K1, Cancel: whether the wish of a member is recorded; a member that is no party has none
abbrev pub wish_of : ℕ → Obligation → Bool
wish_of m o = pick (eqb o.deal.seller m) o.wishes.seller (pick (eqb o.deal.buyer m) o.wishes.buyer false)

-- B8, Buy-in: the age of an obligation of the book is grace
abbrev pub at_grace : Book → Obligation → Bool
at_grace b o = eqb (age_of b o) b.setup.terms.grace.0

-- this much moves to each part of one obligation
abbrev pub Shift : Parts → Parts → (Part → ℕ) → Type 0
Shift p q amounts = (k : Part) → part_of k q ≡ amounts k + part_of k p

pub shift_none : (p : Parts) → Shift p p (λ k. 0)
shift_none p k = sym (zero-add (part_of k p))

-- ---- what a call does to one row; f is what its event says
-- the event says nothing of obligation n
pub record Untold (f : Facts) (n : ℕ) : Type 0 where
  pub instructed : instructs n f.legs ≡ None
  pub moves : (k : Part) → moved_by k n f ≡ 0
  pub wishes : (m : ℕ) → f.wishes n m ≡ false

-- Obligation n, which was o, is r after the call: the same deal at a later time, with the quantities moved that the event
-- tells of. Each thing that it stores is what the event makes of it; the price for the cap is wanted only where something
-- is outstanding.
pub record RowDoes (b : Book) (f : Facts) (n : ℕ) (o r : Obligation) : Type 0 where
  pub later : Later o r
  pub instructed : instructs n f.legs ≡ None
  pub shift : Shift o.parts r.parts (λ k. moved_by k n f)
  pub price : 0 < r.parts.outstanding → r.stage.grace_price ≡ pick (is_end f.ends && at_grace b o) (price_of f.ends) o.stage.grace_price
  pub wish : (m : ℕ) → wish_of m r ≡ (f.wishes n m || wish_of m o)

-- obligation n is new: as it was instructed, with no part, no price and no wish
pub record RowNew (f : Facts) (n : ℕ) (r : Obligation) : Type 0 where
  pub instructed : instructs n f.legs ≡ Some (instructed_at r)
  pub moves : (k : Part) → moved_by k n f ≡ 0
  pub wishes : (m : ℕ) → f.wishes n m ≡ false
  pub parts : (k : Part) → part_of k r.parts ≡ 0
  pub price : r.stage.grace_price ≡ 0
  pub wish : (m : ℕ) → wish_of m r ≡ false

-- ---- what a call does to all rows
pub record Rows (b after : Book) (f : Facts) : Type 0 where
  pub kept : b.ledger.count ≤ after.ledger.count
  pub there : (n : ℕ) → n < b.ledger.count → RowDoes b f n (obligation_at b.ledger n) (obligation_at after.ledger n)
  pub new : (n : ℕ) → b.ledger.count ≤ n → n < after.ledger.count → RowNew f n (obligation_at after.ledger n)
  pub absent : (n : ℕ) → after.ledger.count ≤ n → Untold f n

-- a row that stays as it is, where the call does not end the day
pub row_same : (b : Book) (f : Facts) (n : ℕ) (o : Obligation) → is_end f.ends ≡ false → Untold f n → RowDoes b f n o o
row_same b f n o e q = record {
  later = later_same o;
  instructed = q.instructed;
  shift = λ k. rw (q.moves k) (shift_none o.parts k);
  price = λ left. rw e;
  wish = λ m. rw (q.wishes m);
}

-- the rows stay as they are
pub rows_same : (b after : Book) (f : Facts) → is_end f.ends ≡ false → after.ledger.obligations ≡ b.ledger.obligations →
    after.ledger.count ≡ b.ledger.count → ((n : ℕ) → Untold f n) → Rows b after f
rows_same b after f e rows count q = record {
  kept = omega (arith, count);
  there = λ n h. rw rows (row_same b f n (obligation_at b.ledger n) e (q n));
  new = λ n h l. absurd (omega (arith, h, l, count));
  absent = λ n h. q n;
}

-- some rows change, and no obligation is new
pub rows_changed : (b after : Book) (f : Facts) → after.ledger.count ≡ b.ledger.count →
    ((n : ℕ) → n < b.ledger.count → RowDoes b f n (obligation_at b.ledger n) (obligation_at after.ledger n)) →
    ((n : ℕ) → b.ledger.count ≤ n → Untold f n) → Rows b after f
rows_changed b after f count there absent = record {
  kept = omega (arith, count);
  there = there;
  new = λ n h l. absurd (omega (arith, h, l, count));
  absent = λ n h. absent n (omega (arith, h, count));
}

-- one row changes
pub rows_one : (b : Book) → Valid b → (f : Facts) (n : ℕ) (r : Obligation) → is_end f.ends ≡ false → n < b.ledger.count →
    RowDoes b f n (obligation_at b.ledger n) r → ((k : ℕ) → (k ≡ n → ⊥) → Untold f k) → Rows b (with_ledger (with_obligation n r b.ledger) b) f
rows_one b v f n r e h own other =
    rows_changed b _ f refl
    (λ k l.
    set_case (RowDoes b f k (obligation_at b.ledger k)) b.ledger.obligations n k r no_obligation (omega (arith, l, v.ledger.few, v.ledger.size))
    (λ q. subst (λ (j : ℕ). RowDoes b f j (obligation_at b.ledger j) r) (sym q) own)
    (λ q. row_same b f k (obligation_at b.ledger k) e (other k q)))
    (λ k l. other k (λ q. apart k l q))
  where
    apart : (k : ℕ) → b.ledger.count ≤ k → k ≡ n → ⊥
    apart k l q = omega arith

-- there is one row more
pub rows_more : (b : Book) → Valid b → (legs : Legs) (f : Facts) (r : Obligation) → is_end f.ends ≡ false → b.ledger.count < most_obligations →
    RowNew f b.ledger.count r → ((k : ℕ) → (k ≡ b.ledger.count → ⊥) → Untold f k) → Rows b (with_legs legs (with_ledger (with_new r b.ledger) b)) f
rows_more b v legs f r e room own other = record {
  kept = omega arith;
  there = λ k l.
      set_case (RowDoes b f k (obligation_at b.ledger k)) b.ledger.obligations count k r no_obligation (omega (arith, l, v.ledger.few, v.ledger.size))
      (λ q. absurd (omega arith))
      (λ q. row_same b f k (obligation_at b.ledger k) e (other k q));
  new = λ k l h.
      set_case (RowNew f k) b.ledger.obligations count k r no_obligation (omega (arith, h, room, v.ledger.size))
      (λ q. subst (λ (j : ℕ). RowNew f j r) (sym q) own)
      (λ q. absurd (between k l h q));
  absent = λ k l. other k (λ q. behind k l q);
}
  where
    count : ℕ
    count = b.ledger.count

    between : (k : ℕ) → b.ledger.count ≤ k → k < b.ledger.count + 1 → (k ≡ b.ledger.count → ⊥) → ⊥
    between k l h q = q (omega arith)

    behind : (k : ℕ) → b.ledger.count + 1 ≤ k → k ≡ b.ledger.count → ⊥
    behind k l q = omega arith
