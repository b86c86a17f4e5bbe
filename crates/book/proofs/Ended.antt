-- What a Close and an Again leave: a valid book, and lines that fit the list. After a Close each obligation whose J has
-- come is a day older.
use Rattle.std.specs.Prelude.{Option, Some, None}
use Prim.Native.Nat.{ℕ, ◌*◌, ◌≤◌, ◌<◌}
use native.Mathlib.Omega.{arith}
use mathlib.Core.Path.{◌≡◌, refl, sym, ap, subst⁻¹, ◌∙◌}
use mathlib.Core.Bool.{true, false}
use mathlib.Core.List.{List}
use mathlib.Core.Logic.{⊎_elim}
use lib.ListN.{length}
use borrow.Author.Tests.{le-leb, lt-ltb}
use Rattle.basics.specs.Lists.{Every}
use Rattle.basics.specs.Refusals.{answer}
use Rattle.basics.proofs.Cases.{below_or_not}
use Rattle.basics.proofs.Refusals.{done_by, refused_with}
use Rattle.calendar.specs.declared.Day.{Day}
use Rattle.calendar.specs.Days.{age_at}
use Rattle.calendar.proofs.Next.{FirstAfter, next_at}
use Rattle.calendar.proofs.Ages.{age_next, age_to_come}
use Rattle.amounts.specs.Amounts.{most_penalty}
use Rattle.ledger.specs.declared.Deal.{Deal}
use Rattle.ledger.specs.declared.Obligation.{Obligation}
use Rattle.ledger.specs.declared.Ledger.{Ledger}
use Rattle.ledger.specs.Obligations.{age_by, last_of, is_due}
use Rattle.ledger.specs.Lines.{words_in_line, fewest_words, most_lines}
use Rattle.ledger.specs.Ledger.{obligation_at, ValidLedger}
use Rattle.ledger.proofs.Valid.{no_offers_valid}
use Rattle.offers.specs.Held.{listed_offers}
use Rattle.closing.specs.declared.DayEnd.{DayEnd}
use Rattle.closing.specs.declared.Line.{Line}
use Rattle.closing.specs.Close.{closed_at, close_lines, closed_ledger}
use Rattle.closing.specs.Lines.{written, lines_read, SoundLine}
use Rattle.closing.specs.Asked.{Closable, ClosedAs}
use Rattle.closing.proofs.Parts.{Goes, closed_goes, last_none}
use Rattle.closing.proofs.Together.{rows_length, rows_closed, lines_most}
use Rattle.closing.proofs.Fines.{Charged, charged_up_to}
use Rattle.closing.proofs.Lines.{lines_back, written_fits}
use Rattle.closing.proofs.Sizes.{lines_sound}
use Rattle.rates.specs.Force.{is_unset}
use Rattle.rates.proofs.Keeping.{later_valid}
use Rattle.reprint.specs.declared.LastClose.{LastClose}
use Rattle.reprint.specs.Kept.{kept_from, Keepable}
use Rattle.reprint.proofs.Keeping.{kept_valid}
use Rattle.refusals.specs.Calls.{close_refusals, close_refusals_in}
use Rattle.refusals.proofs.Ending.{close_given, close_at, again_given}
use Rattle.book.specs.declared.Book.{Book}
use Rattle.book.specs.declared.Closed.{Closed}
use Rattle.book.specs.Book.{with_day, with_last, closed_of, today_of, age_of, Valid}
use Rattle.book.specs.Close.{next_day, force_of, day_end, closed_day, closed_book, close_refused, close_answer, close_done, close_by, close, close_words}
use Rattle.book.specs.Again.{again}
use Rattle.book.proofs.Outcomes.{Ends, close_ends, close_case, again_case}

module _ (b : Book) (v : Valid b) (d : DayEnd) (e : Ends b d) where
  abbrev l : Ledger
  l = b.ledger

  -- obligation n after the Close
  abbrev after : ℕ → Obligation
  after n = obligation_at (closed_ledger d l) n

  -- what the Close of the ledger asks
  pub closable : (ws : List ℕ) → fewest_words ≤ length ws → Closable d l ws
  closable ws long = record {
    valid = v.ledger;
    end = e.valid;
    accounts_near = λ m. omega (arith, v.accounts_near m, v.day.today_most);
    long = long;
  }

  pub after_closed : (n : ℕ) → n < l.count → after n ≡ (closed_at d (listed_offers l.offers) l.obligations n).obligation
  after_closed n h = rows_closed d l.obligations (listed_offers l.offers) l.count n h (omega (arith, v.ledger.size, v.ledger.few))

  pub after_goes : (n : ℕ) → n < l.count → Goes (obligation_at l n) (after n)
  after_goes n h = rw (after_closed n h) (closed_goes d (listed_offers l.offers) n (obligation_at l n) e.valid.price_most (v.ledger.sound n h))

  charged : Charged l.accounts (closed_ledger d l).accounts (most_penalty * l.count)
  charged = charged_up_to d l e.valid v.ledger l.count (omega arith)

  closed_ledger_valid : ValidLedger (closed_ledger d l)
  closed_ledger_valid = record {
    size = rows_length d l.obligations (listed_offers l.offers) l.count ∙ v.ledger.size;
    few = v.ledger.few;
    sound = λ n h. (after_goes n h).sound;
    offers = no_offers_valid l.count;
    accounts = record { size = charged.size ∙ v.ledger.accounts.size; even = charged.even ∙ v.ledger.accounts.even };
  }

  -- there are no more lines than the book can keep
  pub lines_few : length (close_lines d l) ≤ most_lines
  lines_few = lines_most d l.obligations l.offers e.valid.setup.terms v.ledger.offers.few l.count v.ledger.few

  -- the age and the last day of an obligation, as the Close has them
  pub ends_age : (o : Obligation) → age_by d.setup d.today o ≡ age_of b o
  unfolding age_of
  ends_age o = rw (e.setup, e.today)

  pub ends_last : (o : Obligation) → last_of d.setup.terms o ≡ last_of b.setup.terms o
  ends_last o = rw e.setup

  -- an obligation whose day has come and of which something is outstanding is due
  pub ends_due : (o : Obligation) → o.deal.day.0 ≤ (today_of b).0 → 0 < o.parts.outstanding → is_due d.today o ≡ true
  unfolding is_due
  ends_due o h z = rw (e.today, le-leb o.deal.day.0 (today_of b).0 h, lt-ltb 0 o.parts.outstanding z)

  -- after the Close of its last day nothing of an obligation is outstanding
  pub after_last : (n : ℕ) → n < l.count → (obligation_at l n).deal.day.0 ≤ (today_of b).0 → age_of b (obligation_at l n) ≡ last_of b.setup.terms (obligation_at l n) →
      (after n).parts.outstanding ≡ 0
  after_last n h reached old =
      let o = obligation_at l n in
      ⊎_elim
      (λ (z : 0 < o.parts.outstanding).
      ap (λ (x : Obligation). x.parts.outstanding) (after_closed n h)
      ∙ last_none d (listed_offers l.offers) n o (ends_due o reached z) (ends_age o ∙ old ∙ sym (ends_last o)))
      (λ (z : o.parts.outstanding ≤ 0). omega (arith, (after_goes n h).later.less))
      (below_or_not 0 o.parts.outstanding)

  module _ (next : Day) (q : next_day b ≡ Some next) where
    abbrev first : FirstAfter (closed_of b) (today_of b).0 next.0
    first = (next_at (closed_of b) (today_of b) next q).0

    -- the age of an obligation after the Close
    abbrev older : Obligation → ℕ
    older o = (age_at (closed_of b) o.deal.day next).0

    -- what is outstanding after the Close has not come beyond its last day
    still_young : (n : ℕ) → n < l.count → 1 ≤ (after n).parts.outstanding → older (after n) ≤ last_of b.setup.terms (after n)
    unfolding age_of
    still_young n h some =
        let o = obligation_at l n in
        let g = (after_goes n h).later in
        let young = (v.timely n h).young (omega (arith, g.less)) in
        let same : older (after n) ≡ older o = ap (λ (d : Deal). (age_at (closed_of b) d.day next).0) g.deal in
        ⊎_elim
        (λ (z : (today_of b).0 < o.deal.day.0). omega (arith, same, age_to_come (closed_of b) o.deal.day (today_of b) next (v.timely n h).clears z q))
        (λ (z : o.deal.day.0 ≤ (today_of b).0).
        let one = age_next (closed_of b) o.deal.day (today_of b) next z q in
        omega (arith, same, one, g.last b.setup.terms, below (age_of b o) (last_of b.setup.terms o) young (λ old. gone (after_last n h z old))))
        (below_or_not (today_of b).0 o.deal.day.0)
      where
        below : (a m : ℕ) → a ≤ m → (a ≡ m → ⊥) → a < m
        below a m x y = omega arith

        gone : (after n).parts.outstanding ≡ 0 → ⊥
        gone z = omega arith

    pub closed_valid : Valid (closed_book b d next)
    unfolding age_of
    closed_valid = record {
      setup = v.setup;
      day = record { today_clears = first.clears; today_most = (next_at (closed_of b) (today_of b) next q).1 };
      legs = v.legs;
      ledger = closed_ledger_valid;
      last = kept_valid (close_lines d l) lines_few;
      rates = later_valid (today_of b) next b.rates (omega (arith, first.later)) v.rates;
      room = v.room;
      timely = λ n h. record { clears = rw (after_goes n h).later.deal (v.timely n h).clears; young = still_young n h };
      accounts_near = λ m. omega (arith, charged.near m, v.accounts_near m, v.ledger.few, first.later);
    }

-- ---- the answer of a Close and the words of its list
-- refused by n: the same book and the same words
pub refused_end : (b : Book) → Valid b → (price n : ℕ) (ws : List ℕ) (r : Closed) → r ≡ close_refused b n → close_answer b price (length ws) ≡ n → (n ≡ 0 → ⊥) →
    record { value : r ≡ close b price (length ws); lines_after : ws ≡ close_words b price ws; valid : Valid r.book }
unfolding close close_by close_words
refused_end b v price n ws r same e z = record {
  value = same ∙ by (next_day b) e;
  lines_after = refused_with n (close_refusals price (length ws) (next_day b) (force_of b)) _ (λ k. ws) e z;
  valid = subst⁻¹ (λ (x : Closed). Valid x.book) same v;
}
  where
    by : (t : Option Day) → answer (close_refusals price (length ws) t (force_of b)) ≡ n → close_refused b n ≡ close_by b price (length ws) t
    by None e = ap (close_refused b) (sym e)
    by (Some next) e = refused_with n (close_refusals price (length ws) (Some next) (force_of b)) _ (close_refused b) e z

-- done, with the ledger that the Close of the book's ledger gave, and with the lines that were then read from the list
module _ (b : Book) (v : Valid b) (price : ℕ) (ws : List ℕ) (e : answer (close_refusals_in price (length ws)) ≡ 0) (next : Day) (q : next_day b ≡ Some next) (f : is_unset (force_of b) ≡ false) (d : DayEnd) (same_end : d ≡ day_end b price) where
  abbrev ends : Ends b d
  ends = subst⁻¹ (Ends b) same_end (close_ends b v price (length ws) e)

  abbrev lines : List Line
  lines = close_lines d b.ledger

  abbrev ended : Ledger → LastClose → Book
  ended l k = with_last k (with_day (closed_day next) l b)

  pub done_closable : Closable d b.ledger ws
  done_closable = closable b v d ends ws (close_given price (length ws) e).long

  -- the Close is done, with next as its next clearing day
  close_done_lem : close_done b d next ≡ close b price (length ws)
  unfolding close close_by
  close_done_lem =
      ap (λ (x : DayEnd). close_done b x next) same_end
      ∙ rw q (done_by (close_refusals price (length ws) (Some next) (force_of b)) (close_done b (day_end b price) next) (close_refused b) (close_at price (length ws) (Some next) (force_of b) next refl f e))

  module _ (l : Ledger) (count : ℕ) (ws' : List ℕ) (c : ClosedAs (closed_ledger d b.ledger) lines l count ws ws') where
    -- the lines of the Close are read from its list
    lines_told : lines_read count ws' ≡ lines
    lines_told = (λ i. lines_read (c.counted i) (c.words i)) ∙ lines_back lines ws

    -- what keeping them asks
    pub done_keepable : Keepable count ws'
    done_keepable = record {
      few = omega (arith, c.counted, lines_few b v d ends);
      long = omega (arith, c.counted, ap (λ (us : List ℕ). length us) c.words, written_fits lines ws);
      sound = subst⁻¹ (Every SoundLine) lines_told (lines_sound d b.ledger ws done_closable);
    }

    pub done_end : (k : LastClose) → k ≡ kept_from (lines_read count ws') →
        record {
          value : record { answer = 0; count = count; book = ended l k } ≡ close b price (length ws);
          lines_after : ws' ≡ close_words b price ws;
          valid : Valid (ended l k);
        }
    unfolding close_words
    done_end k same_lines =
        let kept = same_lines ∙ ap kept_from lines_told in
        let book : ended l k ≡ closed_book b d next = λ i. ended (c.result i) (kept i) in
        let same : ◌≡◌ {A = Closed} (record { answer = 0; count = count; book = ended l k }) (close_done b d next) =
        λ i. record { answer = 0; count = c.counted i; book = book i } in record {
          value = same ∙ close_done_lem;
          lines_after =
              c.words ∙ ap (λ (x : DayEnd). written (close_lines x b.ledger) ws) same_end
              ∙ done_by (close_refusals price (length ws) (next_day b) (force_of b)) (written (close_lines (day_end b price) b.ledger) ws) (λ k. ws) (close_at price (length ws) (next_day b) (force_of b) next q f e);
          valid = subst⁻¹ Valid book (closed_valid b v d ends next q);
        }

-- a Close keeps the book valid
pub close_valid : (b : Book) → Valid b → (price : ℕ) (ws : List ℕ) → Valid (close b price (length ws)).book
close_valid b v price ws =
    close_case b v (λ (x : Closed) (us : List ℕ). Valid x.book) price ws (λ k z. v) (λ next c. closed_valid b v (day_end b price) c.ends next c.on)

-- the lines fit the list
pub close_fits : (b : Book) (price : ℕ) (ws : List ℕ) → Valid b → words_in_line * (close b price (length ws)).count ≤ length ws
close_fits b price ws v =
    close_case b v (λ (x : Closed) (us : List ℕ). words_in_line * x.count ≤ length ws) price ws (λ k z. omega arith)
    (λ next c. omega (arith, c.long, lines_few b v (day_end b price) c.ends))

-- ---- Again
-- an Again hands back the book as it was, so it keeps it valid
pub again_valid : (b : Book) → Valid b → (ws : List ℕ) → Valid (again b (length ws)).book
again_valid b v ws = again_case b (λ (x : Closed) (us : List ℕ). Valid x.book) ws (λ k z. v) (λ e. v)

-- the lines fit the list
pub again_fits : (b : Book) (ws : List ℕ) → Valid b → words_in_line * (again b (length ws)).count ≤ length ws
again_fits b ws v =
    again_case b (λ (x : Closed) (us : List ℕ). words_in_line * x.count ≤ length ws) ws (λ k z. omega arith)
    (λ e. omega (arith, v.last.few, (again_given _ _ e).0))
