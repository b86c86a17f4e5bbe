-- At every accepted Close the penalties are those of its price and of the rate in force by the events:
-- `known_penalised`. After an accepted Close no Close of the book is refused by 26: `never_again_unset` at the end.
use Rattle.std.specs.Prelude.{Option, Some, None}
use Prim.Native.Nat.{ℕ, ◌≤◌}
use native.Mathlib.Omega.{arith}
use mathlib.Core.Path.{◌≡◌, refl, sym, ap, ap₂, ◌∙◌}
use mathlib.Core.Bool.{Bool, true, false}
use mathlib.Core.List.{List, [], ◌∷◌, ◌++◌}
use Rattle.basics.specs.Choice.{pick}
use Rattle.basics.proofs.Cases.{never}
use Rattle.basics.proofs.Everywhere.{every_map}
use Rattle.calendar.specs.declared.Day.{Day}
use Rattle.calendar.specs.Closed.{listed_days}
use Rattle.calendar.specs.Days.{next_after}
use Rattle.calendar.proofs.Next.{next_at}
use Rattle.amounts.specs.Amounts.{penalty}
use Rattle.rates.specs.declared.RateRow.{RateRow}
use Rattle.rates.specs.Force.{in_force, is_unset, rate_of}
use Rattle.rates.proofs.Ruling.{others_set, set_later, force_entered}
use Rattle.closing.specs.declared.Line.{Line}
use Rattle.closing.proofs.Cents.{penalty_lines}
use Rattle.book.specs.declared.Book.{Book}
use Rattle.book.specs.Close.{force_of, close}
use Rattle.book.proofs.Usable.{close_started}
use Rattle.journal.specs.Calls.{Opening, Event, Run}
use Rattle.journal.specs.Facts.{Ended, is_end, facts}
use Rattle.journal.specs.Sums.{closed_days_in, moved_on, today_in}
use Rattle.journal.specs.History.{latest_close, was_close, rates_in, force_in}
use Rattle.journal.specs.Promise.{PenaltiesBy, EveryPenalty}
use Rattle.journal.proofs.Moves.{Agrees}
use Rattle.journal.proofs.Model.{Known}
use Rattle.journal.proofs.Recalling.{Recalls, known_recalls, each_known}
use Rattle.journal.proofs.Does.{Closes}

-- ---- the rate in force
module _ (o : Opening) (b : Book) (es : List Event) (g : Agrees o b es) (k : Recalls b es) where
  -- J18, Whole journals: what the book finds is the rate in force by the events
  pub force_is : force_of b ≡ force_in o es
  unfolding force_in
  force_is = ap₂ (λ (t : Day) (rs : List RateRow). in_force t rs) g.today k.rates ∙ force_entered (today_in o es) (rates_in es)

  -- the penalties of a Close
  close_penalised : (f : _) (d : Ended) → Closes b f d → PenaltiesBy o es d.price d.lines
  close_penalised f d c = by (force_of b) refl
    where
      -- the price and the rate are those of the Close and of the row in force
      cents_by : (l : Line) (row : RateRow) → force_of b ≡ Some row → penalty l.quantity c.end.price c.end.rate ≡ penalty l.quantity d.price row.rate
      cents_by l row e = ap₂ (λ (price rate : ℕ). penalty l.quantity price rate) (sym c.price) (c.rate ∙ ap rate_of e)

      by : (x : Option RateRow) → force_of b ≡ x → PenaltiesBy o es d.price d.lines
      by None e = absurd (never (sym c.is_set ∙ ap is_unset e))
      by (Some row) e = record {
        row = row;
        in_force = sym force_is ∙ e;
        cents = rw c.lines (every_map (λ l h kind. h kind ∙ cents_by l row e) (penalty_lines c.end b.ledger));
      }

-- ---- every run
pub known_penalised : (s : Run) → Known s → EveryPenalty s.opening s.past
known_penalised = each_known _ (λ o b after es e g k does d q. close_penalised o b es g k (facts e) d (does.closes d q))

-- ---- a row that has started stays started
module _ (o : Opening) where
  -- today does not go back
  moved_later : (t : Option Day) (d : Day) → next_after (listed_days (closed_days_in o)) d ≡ t → d.0 ≤ (moved_on t d).0
  moved_later None d q = omega arith
  moved_later (Some next) d q = omega (arith, (next_at (listed_days (closed_days_in o)) d next q).0.later)

  today_later : (e : Event) (es : List Event) → (today_in o es).0 ≤ (today_in o (e ∷ es)).0
  unfolding today_in
  today_later e es = by (is_end (facts e).ends)
    where
      by : (t : Bool) → (today_in o es).0 ≤ (pick t (moved_on (next_after (listed_days (closed_days_in o)) (today_in o es)) (today_in o es)) (today_in o es)).0
      by true = moved_later (next_after (listed_days (closed_days_in o)) (today_in o es)) (today_in o es) refl
      by false = omega arith

  -- further rows leave one in force
  more_set : (t : Day) (xs ys : List RateRow) → is_unset (in_force t ys) ≡ false → is_unset (in_force t (xs ++ ys)) ≡ false
  more_set t [] ys e = e
  more_set t (x ∷ xs) ys e = others_set t x (xs ++ ys) (more_set t xs ys e)

  stays_set : (e : Event) (es : List Event) → is_unset (force_in o es) ≡ false → is_unset (force_in o (e ∷ es)) ≡ false
  unfolding force_in rates_in
  stays_set e es q = more_set (today_in o (e ∷ es)) (facts e).rates (rates_in es) (set_later (today_in o es) (today_in o (e ∷ es)) (rates_in es) (today_later e es) q)

  -- F8, Rates: once a Close was accepted, a row is in force after every further event
  closed_set : (es : List Event) → EveryPenalty o es → was_close (latest_close es) ≡ true → is_unset (force_in o es) ≡ false
  unfolding latest_close
  closed_set [] p w = absurd (never w)
  closed_set (e ∷ es) p w = by (facts e).ends refl (closed_set es p.1)
    where
      by : (x : Option Ended) → (facts e).ends ≡ x → (was_close (latest_close es) ≡ true → is_unset (force_in o es) ≡ false) → is_unset (force_in o (e ∷ es)) ≡ false
      by None q f = stays_set e es (f (rw q at w))
      by (Some d) q f = stays_set e es (ap is_unset (p.0 d q).in_force)

-- F8, Rates: once a Close of a run was accepted, no Close after it is refused by 26
pub never_again_unset : (s : Run) → Known s → was_close (latest_close s.past) ≡ true → (price words : ℕ) → (close s.book price words).answer ≡ 26 → ⊥
never_again_unset s k w =
    close_started s.book (ap is_unset (force_is s.opening s.book s.past k.agrees (known_recalls s k)) ∙ closed_set s.opening s.past (known_penalised s k) w)
