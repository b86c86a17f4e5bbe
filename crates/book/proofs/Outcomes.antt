-- What holds of a refused call and of one that is done holds of its outcome. The calls here go by the answer of a fetch
-- or by the next clearing day, and one that is done has found what it asked for.
use Rattle.std.specs.Prelude.{Option, Some, None}
use Prim.Native.Nat.{ℕ, ◌≤◌, ◌<◌}
use mathlib.Core.Path.{◌≡◌, refl, sym}
use mathlib.Core.Bool.{false, false≢true}
use mathlib.Core.List.{List}
use lib.ListN.{length}
use Rattle.basics.specs.Refusals.{answer, outcome}
use Rattle.basics.proofs.Cases.{never}
use Rattle.basics.proofs.Refusals.{passed, by_number, by_number₂}
use Rattle.calendar.specs.declared.Day.{Day}
use Rattle.instructions.specs.Legs.{leg_at}
use Rattle.instructions.proofs.Fetching.{fetched_leg_case}
use Rattle.ledger.specs.Lines.{fewest_words}
use Rattle.ledger.specs.Ledger.{obligation_at}
use Rattle.closing.specs.declared.DayEnd.{DayEnd}
use Rattle.closing.specs.Lines.{written}
use Rattle.closing.specs.Close.{close_lines}
use Rattle.closing.specs.Asked.{ValidEnd}
use Rattle.rates.specs.Force.{is_unset}
use Rattle.rates.proofs.Keeping.{force_most}
use Rattle.reprint.specs.Kept.{lines_kept}
use Rattle.refusals.specs.Calls.{cancel_refusals_in, cancel_refusals_of, deliver_refusals_in, deliver_refusals_of, offer_refusals_in, close_refusals_in, close_refusals}
use Rattle.refusals.proofs.Named.{fetch_case}
use Rattle.refusals.proofs.Rating.{Rated, rate_given}
use Rattle.refusals.proofs.Ending.{close_given, close_passed}
use Rattle.book.specs.declared.Book.{Book}
use Rattle.book.specs.declared.Done.{Done}
use Rattle.book.specs.declared.Cancelled.{Cancelled}
use Rattle.book.specs.declared.Delivered.{Delivered}
use Rattle.book.specs.declared.Closed.{Closed}
use Rattle.book.specs.Book.{today_of, Valid}
use Rattle.book.specs.Instructing.{withdraw_refusals, done_refused, withdraw_done, withdraw_by, withdraw, cancel_refused, cancel_done, cancel, deliver_refused, deliver_done, deliver}
use Rattle.book.specs.Buying.{offer_refusals_for, offer_done, offer}
use Rattle.book.specs.Rating.{rate_answer, rate_done, rated}
use Rattle.book.specs.Close.{next_day, force_of, day_end, close_refused, close_done, close_by, close, close_words}
use Rattle.book.specs.Again.{again_answer, again_done, again, again_words}

-- ---- the end of the day
-- d is the end of the day of a book, and its price is not 0
pub record Ends (b : Book) (d : DayEnd) : Type 0 where
  pub setup : d.setup ≡ b.setup
  pub today : d.today ≡ today_of b
  pub valid : ValidEnd d
  pub price_some : 1 ≤ d.price

-- a Close that passes the refusals from its input ends the day
pub close_ends : (b : Book) → Valid b → (price words : ℕ) → answer (close_refusals_in price words) ≡ 0 → Ends b (day_end b price)
close_ends b v price words e =
    let g = close_given price words e in
    record { setup = refl; today = refl; valid = record { setup = v.setup; price_most = g.price_most; rate_most = force_most (today_of b) b.rates v.rates }; price_some = g.price_some }

-- what is known of a Close that is done: it ends the book's day, there is a next clearing day, a rate is in force, and
-- the list is long enough
pub record Closing (b : Book) (price : ℕ) (ws : List ℕ) (next : Day) : Type 0 where
  pub ends : Ends b (day_end b price)
  pub on : next_day b ≡ Some next
  pub rate : is_unset (force_of b) ≡ false
  pub long : fewest_words ≤ length ws

-- ---- the calls
module _ (b : Book) where
  pub withdraw_case : (P : Done → Type 0) (n member : ℕ) → ((k : ℕ) → (k ≡ 0 → ⊥) → P (done_refused b k)) →
      (n < b.legs.count → P (withdraw_done b n)) → P (withdraw b n member)
  unfolding withdraw withdraw_by withdraw_refusals
  withdraw_case P n member f g =
      fetched_leg_case (λ x. P (withdraw_by b n member x)) b.legs n
      (f _ (λ e. false≢true (sym (passed _ _ _ (passed 1 _ _ e refl).1 refl).0)))
      (λ h. by_number P (answer (withdraw_refusals (Some (leg_at b.legs n)) member)) (withdraw_done b n) (done_refused b) (f _) (λ e. g h))

  pub cancel_case : (P : Cancelled → Type 0) (n member : ℕ) → ((k : ℕ) → (k ≡ 0 → ⊥) → P (cancel_refused b k)) →
      (n < b.ledger.count → answer (cancel_refusals_of (obligation_at b.ledger n) member) ≡ 0 → P (cancel_done b n member (obligation_at b.ledger n))) →
      P (cancel b n member)
  unfolding cancel
  cancel_case P n member f g =
      fetch_case (cancel_refusals_in member) (λ o. cancel_refusals_of o member) (cancel_done b n member) (cancel_refused b) P b.ledger n refl f
      (λ h i e. g h e)

  pub deliver_case : (P : Delivered → Type 0) (n q : ℕ) → ((k : ℕ) → (k ≡ 0 → ⊥) → P (deliver_refused b k)) →
      (n < b.ledger.count → answer (deliver_refusals_of (today_of b) (obligation_at b.ledger n) q) ≡ 0 → P (deliver_done b n q (obligation_at b.ledger n))) →
      P (deliver b n q)
  unfolding deliver
  deliver_case P n q f g =
      fetch_case (deliver_refusals_in q) (λ o. deliver_refusals_of (today_of b) o q) (deliver_done b n q) (deliver_refused b) P b.ledger n refl f
      (λ h i e. g h e)

  pub offer_case : (P : Done → Type 0) (n supplier q price : ℕ) → ((k : ℕ) → (k ≡ 0 → ⊥) → P (done_refused b k)) →
      (n < b.ledger.count → answer (offer_refusals_in supplier q price) ≡ 0 → answer (offer_refusals_for b price (obligation_at b.ledger n)) ≡ 0 →
      P (offer_done b n supplier q price)) →
      P (offer b n supplier q price)
  unfolding offer offer_refusals_in
  offer_case P n supplier q price f g =
      fetch_case (offer_refusals_in supplier q price) (offer_refusals_for b price) (λ o. offer_done b n supplier q price) (done_refused b) P b.ledger n refl f g

  pub rate_case : (P : Done → Type 0) (start : Day) (rate : ℕ) → ((k : ℕ) → (k ≡ 0 → ⊥) → P (done_refused b k)) →
      (Rated (today_of b) b.rates start rate → P (rate_done b start rate)) → P (rated b start rate)
  unfolding rated
  rate_case P start rate f g =
      by_number P (rate_answer b start rate) (rate_done b start rate) (done_refused b) (f _) (λ e. g (rate_given (today_of b) b.rates start rate e))

  -- a Close, and the words of its list
  pub close_case : Valid b → (P : Closed → List ℕ → Type 0) (price : ℕ) (ws : List ℕ) → ((k : ℕ) → (k ≡ 0 → ⊥) → P (close_refused b k) ws) →
      ((next : Day) → Closing b price ws next → P (close_done b (day_end b price) next) (written (close_lines (day_end b price) b.ledger) ws)) →
      P (close b price (length ws)) (close_words b price ws)
  unfolding close close_by close_words
  close_case v P price ws f g = by (next_day b) refl
    where
      d : DayEnd
      d = day_end b price

      lines : List ℕ
      lines = written (close_lines d b.ledger) ws

      number : Option Day → ℕ
      number t = answer (close_refusals price (length ws) t (force_of b))

      by : (t : Option Day) → next_day b ≡ t → P (close_by b price (length ws) t) (outcome (number t) lines (λ k. ws))
      by None q =
          by_number (λ (us : List ℕ). P (close_refused b (number None)) us) (number None) lines (λ k. ws)
          (λ z. f (number None) z) (λ e. absurd (never (sym (close_passed price (length ws) None (force_of b) e).next_day)))
      by (Some next) q =
          by_number₂ P (number (Some next)) (close_done b d next) (close_refused b) lines (λ k. ws)
          (λ z. f (number (Some next)) z)
          (λ e.
          let p = close_passed price (length ws) (Some next) (force_of b) e in
          g next (record {
            ends = close_ends b v price (length ws) p.input;
            on = q;
            rate = p.rate;
            long = (close_given price (length ws) p.input).long;
          }))

  -- an Again, and the words of its list
  pub again_case : (P : Closed → List ℕ → Type 0) (ws : List ℕ) → ((k : ℕ) → (k ≡ 0 → ⊥) → P (close_refused b k) ws) →
      (again_answer b (length ws) ≡ 0 → P (again_done b) (written (lines_kept b.last) ws)) → P (again b (length ws)) (again_words b ws)
  unfolding again again_words
  again_case P ws f g =
      by_number₂ P (again_answer b (length ws)) (again_done b) (close_refused b) (written (lines_kept b.last) ws) (λ k. ws) (λ z. f (again_answer b (length ws)) z) g
