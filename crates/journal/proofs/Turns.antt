-- What a Close and a Month move.
use Rattle.std.specs.Prelude.{Option, Some}
use Prim.Native.Nat.{ℕ, ◌≤◌, ◌<◌}
use native.Mathlib.Omega.{arith}
use mathlib.Core.Path.{◌≡◌, refl, sym, ap}
use mathlib.Core.Bool.{false≢true}
use mathlib.Core.Logic.{⊎_elim}
use mathlib.Core.List.{List}
use borrow.Author.Tests.{lt-ltb}
use Rattle.basics.specs.Lists.{total}
use Rattle.basics.proofs.Cases.{below_or_not}
use Rattle.calendar.specs.declared.Day.{Day}
use Rattle.calendar.specs.Closed.{listed_days}
use Rattle.calendar.proofs.Ages.{age_early}
use Rattle.offers.specs.Held.{listed_offers}
use Rattle.ledger.specs.declared.Obligation.{Obligation}
use Rattle.ledger.specs.Ledger.{obligation_at}
use Rattle.ledger.proofs.Keeping.{last_after, sides_sound}
use Rattle.closing.specs.declared.DayEnd.{DayEnd}
use Rattle.closing.specs.Close.{close_lines}
use Rattle.book.specs.declared.Book.{Book}
use Rattle.book.specs.Book.{age_of, Valid}
use Rattle.book.specs.Close.{next_day, closed_book}
use Rattle.book.specs.Month.{month_book}
use Rattle.book.proofs.Outcomes.{Ends}
use Rattle.book.proofs.Ended.{after_last, closed_valid}
use Rattle.book.proofs.Paid.{zero_at, paid_valid}
use Rattle.journal.specs.Facts.{only_ends, only_collects}
use Rattle.journal.specs.Sums.{moved_on}
use Rattle.journal.proofs.Rows.{rows_same}
use Rattle.journal.proofs.Moves.{held_sides, Moves}
use Rattle.journal.proofs.Penalties.{accounts_reported}
use Rattle.journal.proofs.ClosedRows.{rows_closed}

-- the settlement day of an obligation with an age was reached
pub reached : (b : Book) (o : Obligation) → 0 < age_of b o → o.deal.day.0 ≤ b.day.today.0
unfolding age_of
reached b o h =
    ⊎_elim
    (λ (z : b.day.today.0 < o.deal.day.0). absurd (omega (arith, h, age_early (listed_days b.setup.closed_days) o.deal.day b.day.today (omega arith))))
    (λ (z : o.deal.day.0 ≤ b.day.today.0). z)
    (below_or_not b.day.today.0 o.deal.day.0)

pub moves_close : (b : Book) → Valid b → (d : DayEnd) → Ends b d → (next : Day) → next_day b ≡ Some next →
    Moves b (closed_book b d next) (only_ends (record { price = d.price; lines = close_lines d b.ledger }))
moves_close b v d e next q =
    let l = b.ledger in
    record {
      valid = closed_valid b v d e next q;
      setup = refl;
      today = sym (ap (λ (t : Option Day). moved_on t b.day.today) q);
      rows = rows_closed b v d e next;
      accounts = accounts_reported d (listed_offers l.offers) l.obligations l.accounts (held_sides b) l.count v.ledger.accounts.size
          (λ k h. sides_sound (obligation_at l k) (v.ledger.sound k h)) (λ k h. rw (lt-ltb k l.count h));
      last = λ t n h old.
          let o = obligation_at l n in
          after_last b v d e n h (reached b o (omega (arith, old, last_after b.setup.terms o v.setup.terms))) old;
    }

pub moves_month : (b : Book) → Valid b → (cs : List ℕ) → Moves b (month_book b) (only_collects cs)
unfolding total
moves_month b v cs = record {
  valid = paid_valid b v;
  setup = refl;
  today = refl;
  rows = rows_same b (month_book b) (only_collects cs) refl refl refl (λ n. record { instructed = refl; moves = λ k. refl; wishes = λ m. refl });
  accounts = λ m. zero_at 32 m;
  last = λ t. absurd (false≢true t);
}
