-- What a call does: one record for all that is proved of it, and what holds of a call that changes legs or offers
-- alone.
use Rattle.std.specs.Prelude.{Some, None}
use Prim.Native.Nat.{ℕ, ◌*◌, ◌≤◌, ◌<◌}
use native.Mathlib.Omega.{arith}
use mathlib.Core.Path.{◌≡◌, refl, ap}
use mathlib.Core.Bool.{true, false}
use mathlib.Core.List.{List, [], ◌++◌}
use lib.Dec.{eqb}
use lib.ListN.{length}
use borrow.Author.Tests.{ne_eqb}
use Rattle.basics.specs.Choice.{pick}
use Rattle.calendar.specs.declared.Day.{Day}
use Rattle.offers.specs.declared.Offer.{Offer}
use Rattle.offers.specs.Rank.{ranked}
use Rattle.offers.specs.Held.{listed_offers}
use Rattle.rates.specs.declared.RateRow.{RateRow}
use Rattle.rates.specs.Rows.{entered_rows, listed_rates}
use Rattle.rates.specs.Force.{is_unset, rate_of}
use Rattle.instructions.specs.Legs.{entered}
use Rattle.ledger.specs.Lines.{words_in_line}
use Rattle.ledger.specs.declared.Ledger.{Ledger}
use Rattle.ledger.specs.Ledger.{obligation_at}
use Rattle.reprint.specs.Kept.{kept_from}
use Rattle.payments.specs.Month.{payouts_of}
use Rattle.book.specs.declared.Book.{Book}
use Rattle.book.specs.Book.{Valid}
use Rattle.closing.specs.declared.DayEnd.{DayEnd}
use Rattle.closing.specs.Close.{close_lines}
use Rattle.book.specs.Close.{next_day, force_of}
use Rattle.book.proofs.Outcomes.{Ends}
use Rattle.book.specs.Month.{month_answer}
use Rattle.journal.specs.Calls.{Call}
use Rattle.journal.specs.Played.{Outcome, event_with}
use Rattle.journal.specs.Facts.{LegChange, neither, Instructed, instructs, Ended, is_end, reported, Facts, no_facts, facts_of, facts}
use Rattle.journal.specs.Sums.{is_month}
use Rattle.journal.specs.History.{legs_after, amount_by}
use Rattle.journal.proofs.Moves.{Moves}
use Rattle.journal.proofs.Steps.{moves_within, plain, plain_untold}
use Rattle.journal.proofs.RecalledLegs.{Proper}
use Rattle.journal.proofs.Rows.{rows_same}

-- what the change of the legs tells of the amounts of new obligations
abbrev pub NewAmounts : Book → Book → LegChange → Type 0
NewAmounts b after c = (n : ℕ) → b.ledger.count ≤ n → n < after.ledger.count → amount_by n c (entered b.legs) ≡ Some (obligation_at after.ledger n).deal.amount

-- what a call leaves of what a book stores: b is the book before it, `after` the book after it, f what its event says
pub record Leaves (b after : Book) (f : Facts) : Type 0 where
  pub close_since : after.day.close_since ≡ pick (is_end f.ends) true (pick (is_month f.collects) false b.day.close_since)
  pub has_closed : after.day.has_closed ≡ pick (is_end f.ends) true b.day.has_closed
  pub last : after.last ≡ pick (is_end f.ends) (kept_from (reported f.ends)) b.last
  pub offers : (xs : List Offer) → listed_offers b.ledger.offers ≡ ranked xs → listed_offers after.ledger.offers ≡ ranked (pick (is_end f.ends) [] (f.offers ++ xs))
  pub rates : (xs : List RateRow) → listed_rates b.rates ≡ entered_rows xs → listed_rates after.rates ≡ entered_rows (f.rates ++ xs)
  pub legs : entered after.legs ≡ legs_after f.legs (entered b.legs)
  pub amounts : NewAmounts b after f.legs
  pub proper : Proper f.legs (entered b.legs)

-- what is known of a call that ended the day: at which end of the book's day it was, that the lines are those of the
-- rules, which rate was in force, that there is a next day, and that no leg was touched
pub record Closes (b : Book) (f : Facts) (d : Ended) : Type 0 where
  pub end : DayEnd
  pub ends : Ends b end
  pub price : d.price ≡ end.price
  pub lines : d.lines ≡ close_lines end b.ledger
  pub rate : end.rate ≡ rate_of (force_of b)
  pub is_set : is_unset (force_of b) ≡ false
  pub next : Day
  pub on : next_day b ≡ Some next
  pub legs : f.legs ≡ neither

-- what is known of a call that was given a list of collected amounts: it was not refused, and its list ended as the
-- payouts of the rules
pub record Pays (b : Book) (cs words : List ℕ) : Type 0 where
  pub places : ℕ
  pub accepted : month_answer b cs places ≡ 0
  pub payouts : words ≡ payouts_of b.ledger.accounts cs

-- what a call does: f is what its event says, words the list that it filled as it ended
pub record Does (b after : Book) (f : Facts) (words : List ℕ) : Type 0 where
  pub moves : Moves b after f
  pub leaves : Leaves b after f
  -- what it instructs is not due before today
  pub due : (n : ℕ) (i : Instructed) → instructs n f.legs ≡ Some i → b.day.today.0 ≤ i.day.0
  pub closes : (d : Ended) → f.ends ≡ Some d → Closes b f d
  pub pays : (cs : List ℕ) → f.collects ≡ Some cs → Pays b cs words
  -- the lines that it reported are within the list
  pub fits : words_in_line * length (reported f.ends) ≤ length words

-- a call with what came of it
abbrev pub DoesAs : Book → Call → Outcome → Type 0
DoesAs b c r = Does b r.book (facts (event_with c r)) r.words

pub no_some : {A : Type 0} {x : A} → None ≡ Some x → ⊥
no_some e = let z : ◌≡◌ {A = ℕ} 0 1 = cc in omega arith

-- ---- other legs and offers, or neither
-- nothing that a journal sums up moves
pub moves_nothing : (b after : Book) (c : LegChange) (xs : List Offer) → Valid after → after.setup ≡ b.setup → after.day.today ≡ b.day.today →
    after.ledger.obligations ≡ b.ledger.obligations → after.ledger.count ≡ b.ledger.count → after.ledger.accounts ≡ b.ledger.accounts →
    ((n : ℕ) → instructs n c ≡ None) → Moves b after (plain c xs)
moves_nothing b after c xs v setup today rows count accounts nobody =
    moves_within b after (plain c xs) refl refl v setup today accounts (rows_same b after (plain c xs) refl rows count (λ n. plain_untold c xs n (nobody n)))

pub does_plain : (b after : Book) (c : LegChange) (xs : List Offer) (words : List ℕ) → Moves b after (plain c xs) → Leaves b after (plain c xs) →
    ((n : ℕ) (i : Instructed) → instructs n c ≡ Some i → b.day.today.0 ≤ i.day.0) → Does b after (plain c xs) words
does_plain b after c xs words m l h = record {
  moves = m;
  leaves = l;
  due = h;
  closes = λ d e. absurd (no_some e);
  pays = λ cs e. absurd (no_some e);
  fits = omega arith;
}

-- ---- a call that says nothing
pub does_nothing : (b after : Book) (words : List ℕ) → Valid after → after.setup ≡ b.setup → after.day ≡ b.day →
    after.legs ≡ b.legs → after.ledger ≡ b.ledger → after.last ≡ b.last → after.rates ≡ b.rates → Does b after no_facts words
does_nothing b after words v setup day legs ledger last rates =
    does_plain b after neither [] words (moves_nothing b after neither [] v setup (rw day) (rw ledger) (rw ledger) (rw ledger) (λ n. refl)) (record {
      close_since = rw day;
      has_closed = rw day;
      last = last;
      offers = λ xs e. rw ledger e;
      rates = λ xs e. rw rates e;
      legs = rw legs;
      amounts = λ k below above. absurd (omega (arith, below, above, ap (λ (l : Ledger). l.count) ledger));
      proper = tt;
    }) (λ n i e. absurd (no_some e))

-- a refused call does nothing
pub refused_does : (b : Book) → Valid b → (c : Call) (n : ℕ) (rs ws : List ℕ) → (n ≡ 0 → ⊥) → Does b b (pick (eqb n 0) (facts_of c rs ws) no_facts) ws
refused_does b v c n rs ws z = rw (ne_eqb n 0 z) (does_nothing b b ws v refl refl refl refl refl refl)
