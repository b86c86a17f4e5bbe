-- What Again shows after a list of calls.
use Rattle.std.specs.Prelude.{Option, None, Some}
use Prim.Native.Nat.{ℕ, ◌*◌, ◌≤◌}
use native.Mathlib.Omega.{arith}
use mathlib.Core.Path.{◌≡◌, refl, sym, ap, ◌∙◌}
use mathlib.Core.Bool.{Bool, true, false, false≢true}
use mathlib.Core.List.{List, [], ◌∷◌}
use lib.Dec.{eqb}
use lib.ListN.{length, get_or, take}
use Rattle.basics.specs.Choice.{pick}
use Rattle.basics.proofs.Refusals.{refused_with, done_by}
use Rattle.ledger.specs.Lines.{words_in_line}
use Rattle.closing.specs.declared.Line.{Line}
use Rattle.closing.specs.Lines.{written, lines_read}
use Rattle.closing.proofs.Lines.{written_front, written_behind, read_length, read_words}
use Rattle.reprint.specs.declared.LastClose.{LastClose}
use Rattle.reprint.specs.Kept.{kept_from, lines_kept}
use Rattle.reprint.proofs.Keeping.{kept_back}
use Rattle.refusals.proofs.Ending.{again_short, again_before, again_after}
use Rattle.book.specs.declared.Book.{Book}
use Rattle.book.specs.declared.Closed.{Closed}
use Rattle.book.specs.Close.{close_refused}
use Rattle.book.proofs.Outcomes.{again_case}
use Rattle.book.specs.Again.{again_answer, again_done, again, again_words}
use Rattle.journal.specs.Calls.{Call, Event}
use Rattle.journal.specs.Facts.{Ended, is_end, reported, no_facts, facts_of, facts}
use Rattle.journal.specs.History.{latest_close, was_close, latest_lines}
use Rattle.journal.specs.Promise.{AgainRefused, AgainGives, AgainShows}
use Rattle.journal.proofs.Does.{no_some}
use Rattle.journal.proofs.Recalling.{Recalls}
use Rattle.journal.proofs.Demand3.{AgainCalled}

-- ---- the latest Close
-- the lines that an event reported were read from its list as it ended
ends_read : (e : Event) (d : Ended) → (facts e).ends ≡ Some d → d.lines ≡ lines_read (get_or e.results 0 0) e.words
ends_read e d q = by e.call (eqb e.answer 0) q
  where
    by : (c : Call) (t : Bool) → (pick t (facts_of c e.results e.words) no_facts).ends ≡ Some d → d.lines ≡ lines_read (get_or e.results 0 0) e.words
    by c false z = absurd (no_some z)
    by (Call.rate start rate) true z = absurd (no_some z)
    by (Call.close price lines) true z =
        let same : record { price = price; lines = lines_read (get_or e.results 0 0) e.words } ≡ d = cc in
        ap (λ (x : Ended). x.lines) (sym same)
    by (Call.enter member other side q a j) true z = absurd (no_some z)
    by (Call.withdraw leg member) true z = absurd (no_some z)
    by (Call.cancel n member) true z = absurd (no_some z)
    by (Call.deliver n q) true z = absurd (no_some z)
    by (Call.offer n supplier q price) true z = absurd (no_some z)
    by (Call.again lines) true z = absurd (no_some z)
    by (Call.month collected payouts) true z = absurd (no_some z)

-- the latest Close ended a day
latest_ends : (es : List Event) (e : Event) → latest_close es ≡ Some e → is_end (facts e).ends ≡ true
unfolding latest_close
latest_ends [] e q = absurd (no_some q)
latest_ends (x ∷ es) e q = by (is_end (facts x).ends) refl q (latest_ends es e)
  where
    by : (t : Bool) → is_end (facts x).ends ≡ t → pick t (Some x) (latest_close es) ≡ Some e →
        (latest_close es ≡ Some e → is_end (facts e).ends ≡ true) → is_end (facts e).ends ≡ true
    by true f z earlier = let same : x ≡ e = cc in rw (← same) f
    by false f z earlier = earlier z

-- so its lines were read from its list as it ended
latest_read : (es : List Event) (e : Event) → latest_close es ≡ Some e → reported (facts e).ends ≡ lines_read (get_or e.results 0 0) e.words
latest_read es e q = by (facts e).ends refl (latest_ends es e q)
  where
    by : (d : Option Ended) → (facts e).ends ≡ d → is_end d ≡ true → reported d ≡ lines_read (get_or e.results 0 0) e.words
    by None f z = absurd (false≢true z)
    by (Some d) f z = ends_read e d f

-- ---- what Again shows
module _ (b : Book) (es : List Event) (k : Recalls b es) (ws us : List ℕ) (t : Closed) (told : (t ≡ again b (length ws)) × (us ≡ again_words b ws)) where
  -- an Again that is refused by n
  refused_shows : (n : ℕ) → again_answer b (length ws) ≡ n → (n ≡ 0 → ⊥) → AgainRefused n ws us t
  unfolding again again_words
  refused_shows n e z =
      let answer = told.0 ∙ sym (refused_with n _ (again_done b) (close_refused b) e z) in
      record {
        number = ap (λ (r : Closed). r.answer) answer;
        count = ap (λ (r : Closed). r.count) answer;
        words = told.1 ∙ sym (refused_with n _ (written (lines_kept b.last) ws) (λ m. ws) e z);
      }

  -- an Again that is done, after the latest Close e
  done_shows : (e : Event) → latest_close es ≡ Some e → again_answer b (length ws) ≡ 0 → AgainGives e ws us t
  unfolding again again_words
  done_shows e q z =
      let n = get_or e.results 0 0 in
      let ls = lines_read n e.words in
      let kept : b.last ≡ kept_from ls = k.last ∙ ap (λ (x : Option Event). kept_from (latest_lines x)) q ∙ ap kept_from (latest_read es e q) in
      let size : length ls ≡ n = read_length n e.words in
      let answer = told.0 ∙ sym (done_by _ (again_done b) (close_refused b) z) in
      let words : us ≡ written ls ws =
      told.1 ∙ sym (done_by _ (written (lines_kept b.last) ws) (λ m. ws) z) ∙ ap (λ (x : LastClose). written (lines_kept x) ws) kept
      ∙ ap (λ (x : List Line). written x ws) (kept_back ls) in
      let count : t.count ≡ length ls = ap (λ (r : Closed). r.count) answer ∙ ap (λ (x : LastClose). x.count) kept in
      let long : words_in_line * n ≤ length e.words = omega (arith, k.fits e q, ap (λ (x : List Line). length x) (latest_read es e q), size) in
      record {
        accepted = ap (λ (r : Closed). r.answer) answer;
        count = count ∙ size;
        lines = rw (count, words) (written_front ls ws ∙ read_words n e.words long ∙ ap (λ (m : ℕ). take (words_in_line * m) e.words) (sym size));
        behind = rw (count, words) (written_behind ls ws);
      }

  pub again_shows : AgainShows es ws us t
  again_shows = record {
    short = λ h. refused_shows 5 (again_short _ _ h) (λ z. omega arith);
    before = λ h q. refused_shows 22 (again_before _ _ h (k.has_closed ∙ ap was_close q)) (λ z. omega arith);
    after = λ h e q. done_shows e q (again_after _ _ h (k.has_closed ∙ ap was_close q));
  }

-- what its contract tells
pub again_learnt : {b : Book} {ws us : List ℕ} {t : Closed} → AgainCalled b ws t us → (t ≡ again b (length ws)) × (us ≡ again_words b ws)
again_learnt (AgainCalled.called κs lines t x h) = (h.0, h.1.0)

-- it returns the book that it was given
pub again_returns : {b : Book} {ws us : List ℕ} {t : Closed} → AgainCalled b ws t us → t.book ≡ b
again_returns {b} {ws} c =
    ap (λ (x : Closed). x.book) (again_learnt c).0
    ∙ again_case b (λ (x : Closed) (vs : List ℕ). x.book ≡ b) ws (λ k z. refl) (λ e. refl)
