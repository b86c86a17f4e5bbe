-- What one call moves from book to book, and that what the events tell of a journal goes with it.
use Rattle.std.specs.Prelude.{Option, None, Some}
use Prim.Native.Nat.{ℕ, ◌+◌, ◌≤◌, ◌<◌}
use native.Mathlib.Omega.{arith}
use mathlib.Core.Path.{◌≡◌, refl, sym, ap, ap₂, ◌∙◌}
use mathlib.Core.Bool.{Bool, true, false, ◌&&◌, ◌||◌, false≢true}
use mathlib.Core.Logic.{⊎_elim, ◌⊎◌, inl, inr}
use mathlib.Core.List.{List, ◌∷◌}
use lib.Dec.{eqb, ltb}
use lib.IntN.{ℤ, pos, ◌+ℤ◌}
use lib.ListN.{get_or}
use borrow.Author.Tests.{ltb-true, lt-ltb, le-ltb, eqb-true}
use Rattle.basics.specs.Choice.{pick}
use Rattle.basics.specs.Lists.{total}
use Rattle.basics.proofs.Cases.{and_true, and_no}
use Rattle.calendar.specs.declared.Day.{Day}
use Rattle.calendar.specs.Closed.{listed_days}
use Rattle.calendar.specs.Days.{next_after}
use Rattle.ledger.specs.declared.Setup.{Setup}
use Rattle.ledger.specs.declared.Part.{Part}
use Rattle.ledger.specs.declared.Sides.{Sides}
use Rattle.ledger.specs.Parts.{part_of, every_part, all_parts}
use Rattle.ledger.specs.Obligations.{last_of, sides_of}
use Rattle.ledger.specs.Ledger.{obligation_at}
use Rattle.book.specs.declared.Book.{Book}
use Rattle.book.specs.Book.{age_of, Valid}
use Rattle.journal.specs.Calls.{Opening, Event}
use Rattle.journal.specs.Facts.{Instructed, instructs, Facts, is_end, reported, price_of, facts, moved_by}
use Rattle.journal.specs.Sums.{setup_in, terms_in, moved_on, today_in, or_else, instructed_in, part_in, outstanding_in, age_in, wished_in, is_grace_day, grace_price_in, sides_by, sides_in, penalties_of, is_month, account_in, last_in, is_last_day, last_closed_in}
use Rattle.journal.proofs.Rows.{held, held_step, instructed_from, instructed_at, wish_of, at_grace, Rows}

-- ---- what a book holds
abbrev pub held_instructed : Book → ℕ → Option Instructed
held_instructed = held (λ o. Some (instructed_at o)) None

abbrev pub held_part : Part → Book → ℕ → ℕ
held_part k = held (λ o. part_of k o.parts) 0

abbrev pub held_sides : Book → ℕ → Option Sides
held_sides = held (λ o. Some (sides_of o)) None

-- B9, Buy-in: the price for the cap that is stored
abbrev pub held_price : Book → ℕ → ℕ
held_price = held (λ o. o.stage.grace_price) 0

abbrev pub held_wish : ℕ → Book → ℕ → Bool
held_wish m = held (wish_of m) false

-- an obligation is held, as it was instructed
pub record Held (b : Book) (n : ℕ) (i : Instructed) : Type 0 where
  pub below : n < b.ledger.count
  pub same : instructed_at (obligation_at b.ledger n) ≡ i

instructed_or : Instructed → Option Instructed → Instructed
instructed_or d None = d
instructed_or d (Some i) = i

pub held_as : (b : Book) (n : ℕ) (i : Instructed) → held_instructed b n ≡ Some i → Held b n i
unfolding instructed_or
held_as b n i e = by (ltb n b.ledger.count) refl e
  where
    by : (t : Bool) → ltb n b.ledger.count ≡ t → pick t (Some (instructed_at (obligation_at b.ledger n))) None ≡ Some i → Held b n i
    by true h q = record { below = ltb-true n b.ledger.count h; same = ap (instructed_or i) q }
    by false h q = absurd (none_some q)
      where
        is_some : Option Instructed → Bool
        is_some None = false
        is_some (Some d) = true

        none_some : None ≡ Some i → ⊥
        none_some z = false≢true (ap is_some z)

-- something of the obligation is outstanding, if there is one
abbrev pub Stands : Book → ℕ → Type 0
Stands b n = n < b.ledger.count → 0 < (obligation_at b.ledger n).parts.outstanding

-- ---- what a call moves: b is the book before it, `after` the book after it, f what its event says
pub record Moves (b after : Book) (f : Facts) : Type 0 where
  pub valid : Valid after
  pub setup : after.setup ≡ b.setup
  pub today : after.day.today ≡ pick (is_end f.ends) (moved_on (next_after (listed_days b.setup.closed_days) b.day.today) b.day.today) b.day.today
  pub rows : Rows b after f
  pub accounts : (m : ℕ) → get_or after.ledger.accounts m (pos 0) ≡
      pick (is_month f.collects) (pos 0) (get_or b.ledger.accounts m (pos 0) +ℤ penalties_of m (held_sides b) (reported f.ends))
  pub last : is_end f.ends ≡ true → (n : ℕ) → n < b.ledger.count → age_of b (obligation_at b.ledger n) ≡ last_of b.setup.terms (obligation_at b.ledger n) →
      (obligation_at after.ledger n).parts.outstanding ≡ 0

-- ---- the book and the events agree
pub record Agrees (o : Opening) (b : Book) (es : List Event) : Type 0 where
  pub valid : Valid b
  pub setup : b.setup ≡ setup_in o
  pub today : b.day.today ≡ today_in o es
  pub instructed : (n : ℕ) → held_instructed b n ≡ instructed_in n es
  pub parts : (n : ℕ) (k : Part) → held_part k b n ≡ part_in k n es
  pub prices : (n : ℕ) → Stands b n → held_price b n ≡ grace_price_in o n es
  pub wishes : (n m : ℕ) → held_wish m b n ≡ wished_in n m es
  pub accounts : (m : ℕ) → get_or b.ledger.accounts m (pos 0) ≡ account_in m es
  pub last : (n : ℕ) → last_closed_in o n es ≡ true → (n < b.ledger.count) × ((obligation_at b.ledger n).parts.outstanding ≡ 0)

-- ---- what the events tell
module _ (o : Opening) (b : Book) (es : List Event) (g : Agrees o b es) where
  -- of the parts of an obligation that is held, and what they add up to
  pub parts_are : (n : ℕ) → n < b.ledger.count → (k : Part) → part_in k n es ≡ part_of k (obligation_at b.ledger n).parts
  parts_are n h k = sym (g.parts n k) ∙ rw (lt-ltb n b.ledger.count h)

  pub sum_is : (n : ℕ) → n < b.ledger.count →
      total (λ k. part_in k n es) every_part + (obligation_at b.ledger n).parts.outstanding ≡ (obligation_at b.ledger n).deal.quantity
  unfolding all_parts
  sum_is n h =
      let p = obligation_at b.ledger n in
      ap (λ (f : Part → ℕ). total f every_part + p.parts.outstanding) (λ i k. parts_are n h k i) ∙ (g.valid.ledger.sound n h).whole

  -- the obligation of an instruction
  pub told_held : (n : ℕ) (i : Instructed) → instructed_in n es ≡ Some i → Held b n i
  told_held n i e = held_as b n i (g.instructed n ∙ e)

  -- the quantity that is outstanding of it
  pub outstanding_is : (n : ℕ) (i : Instructed) → instructed_in n es ≡ Some i → outstanding_in n i es ≡ (obligation_at b.ledger n).parts.outstanding
  unfolding outstanding_in
  outstanding_is n i e =
      let h = told_held n i e in
      omega (arith, sum_is n h.below, ap (λ (d : Instructed). d.quantity) h.same)

  -- its age, and its age on its last day
  pub age_is : (n : ℕ) (i : Instructed) → Held b n i → age_in o i es ≡ age_of b (obligation_at b.ledger n)
  unfolding age_of
  age_is n i h = rw (g.setup, g.today, ← h.same)

  pub last_is : (n : ℕ) (i : Instructed) → Held b n i → last_in o n i es ≡ last_of b.setup.terms (obligation_at b.ledger n)
  unfolding last_in last_of
  last_is n i h = rw g.setup

  -- the sides of its penalties
  pub sides_are : (n : ℕ) → held_sides b n ≡ sides_in n es
  sides_are n = by (ltb n b.ledger.count) ∙ ap sides_by (g.instructed n)
    where
      by : (t : Bool) → pick t (Some (sides_of (obligation_at b.ledger n))) None ≡ sides_by (pick t (Some (instructed_at (obligation_at b.ledger n))) None)
      by true = refl
      by false = refl

  -- whether its age is grace
  pub grace_is : (n : ℕ) → held (at_grace b) false b n ≡ is_grace_day o es (instructed_in n es)
  unfolding age_of
  grace_is n = rw (← g.instructed n, g.setup, g.today) (by (ltb n b.ledger.count))
    where
      by : (t : Bool) → pick t (eqb (age_in o (instructed_at (obligation_at b.ledger n)) es) (terms_in o).grace.0) false ≡
          is_grace_day o es (pick t (Some (instructed_at (obligation_at b.ledger n))) None)
      by true = refl
      by false = refl

or_true : (a c : Bool) → (a || c) ≡ true → (a ≡ true) ⊎ (c ≡ true)
or_true true c e = inl refl
or_true false c e = inr e

-- ---- one call more
module _ (o : Opening) (b after : Book) (es : List Event) (e : Event) (g : Agrees o b es) (m : Moves b after (facts e)) where
  -- an obligation that was there is there still, and no more of it is outstanding
  still : (n : ℕ) → n < b.ledger.count → (n < after.ledger.count) × ((obligation_at after.ledger n).parts.outstanding ≤ (obligation_at b.ledger n).parts.outstanding)
  still n h = (omega (arith, h, m.rows.kept), (m.rows.there n h).later.less)

  instructed_step : (n : ℕ) → held_instructed after n ≡ or_else (instructs n (facts e).legs) (held_instructed b n)
  instructed_step n =
      held_step (λ o. Some (instructed_at o)) None b after n (or_else (instructs n (facts e).legs)) m.rows.kept
      (λ h. let r = m.rows.there n h in rw r.instructed (ap (λ d. Some (instructed_from d)) r.later.deal))
      (λ h l. rw (m.rows.new n h l).instructed)
      (λ h. rw (m.rows.absent n h).instructed)

  part_step : (n : ℕ) (k : Part) → held_part k after n ≡ moved_by k n (facts e) + held_part k b n
  part_step n k =
      held_step (λ o. part_of k o.parts) 0 b after n (λ x. moved_by k n (facts e) + x) m.rows.kept
      (λ h. (m.rows.there n h).shift k)
      (λ h l. let r = m.rows.new n h l in r.parts k ∙ rw (r.moves k))
      (λ h. rw ((m.rows.absent n h).moves k))

  wish_step : (n j : ℕ) → held_wish j after n ≡ ((facts e).wishes n j || held_wish j b n)
  wish_step n j =
      held_step (wish_of j) false b after n (λ x. (facts e).wishes n j || x) m.rows.kept
      (λ h. (m.rows.there n h).wish j)
      (λ h l. let r = m.rows.new n h l in r.wish j ∙ rw (r.wishes j))
      (λ h. rw ((m.rows.absent n h).wishes j))

  -- no obligation that is not there has come to grace
  no_grace : (n : ℕ) → b.ledger.count ≤ n → (is_end (facts e).ends && held (at_grace b) false b n) ≡ false
  no_grace n h = rw (le-ltb n b.ledger.count h) (and_no (is_end (facts e).ends))

  price_step : (n : ℕ) → Stands after n → held_price after n ≡ pick (is_end (facts e).ends && held (at_grace b) false b n) (price_of (facts e).ends) (held_price b n)
  price_step n s =
      held_step (λ o. o.stage.grace_price) 0 b after n (λ x. pick (is_end (facts e).ends && held (at_grace b) false b n) (price_of (facts e).ends) x) m.rows.kept
      (λ h. rw (lt-ltb n b.ledger.count h) ((m.rows.there n h).price (s (still n h).0)))
      (λ h l. rw (no_grace n h) (m.rows.new n h l).price)
      (λ h. rw (no_grace n (omega (arith, h, m.rows.kept))))

  last_step : (n : ℕ) → last_closed_in o n (e ∷ es) ≡ true → (n < after.ledger.count) × ((obligation_at after.ledger n).parts.outstanding ≡ 0)
  unfolding last_closed_in
  last_step n h =
      ⊎_elim
      (λ (x : last_closed_in o n es ≡ true).
      let w = g.last n x in
      let s = still n w.0 in
      (s.0, omega (arith, w.1, s.1)))
      (λ (x : (is_end (facts e).ends && is_last_day o n es (instructed_in n es)) ≡ true).
      let both = and_true (is_end (facts e).ends) (is_last_day o n es (instructed_in n es)) x in
      by both.0 (instructed_in n es) refl both.1)
      (or_true (last_closed_in o n es) _ h)
    where
      by : is_end (facts e).ends ≡ true → (d : Option Instructed) → instructed_in n es ≡ d → is_last_day o n es d ≡ true →
          (n < after.ledger.count) × ((obligation_at after.ledger n).parts.outstanding ≡ 0)
      by t None q x = absurd (false≢true x)
      by t (Some i) q x =
          let w = told_held o b es g n i q in
          ((still n w.below).0, m.last t n w.below (sym (age_is o b es g n i w) ∙ eqb-true _ _ x ∙ last_is o b es g n i w))

  pub agrees_step : Agrees o after (e ∷ es)
  unfolding today_in instructed_in part_in grace_price_in wished_in account_in total
  agrees_step = record {
    valid = m.valid;
    setup = m.setup ∙ g.setup;
    today = m.today ∙ ap₂ (λ (s : Setup) (d : Day). pick (is_end (facts e).ends) (moved_on (next_after (listed_days s.closed_days) d) d) d) g.setup g.today;
    instructed = λ n. instructed_step n ∙ ap (or_else (instructs n (facts e).legs)) (g.instructed n);
    parts = λ n k. part_step n k ∙ ap (λ (x : ℕ). moved_by k n (facts e) + x) (g.parts n k);
    prices = λ n s.
        price_step n s
        ∙ ap₂ (λ (t : Bool) (p : ℕ). pick (is_end (facts e).ends && t) (price_of (facts e).ends) p) (grace_is o b es g n) (g.prices n (λ h. let w = still n h in omega (arith, s w.0, w.1)));
    wishes = λ n j. wish_step n j ∙ ap (λ (t : Bool). (facts e).wishes n j || t) (g.wishes n j);
    accounts = λ j.
        m.accounts j
        ∙ ap₂ (λ (z : ℤ) (d : ℕ → Option Sides). pick (is_month (facts e).collects) (pos 0) (z +ℤ penalties_of j d (reported (facts e).ends))) (g.accounts j) (λ i n. sides_are o b es g n i);
    last = last_step;
  }
