-- Laws on a Close of all obligations: it makes at most 192 lines, and it leaves each row as the Close of that
-- obligation alone leaves it.
use Prim.Native.Nat.{ℕ, zero, suc, ◌+◌, ◌*◌, ◌≤◌, ◌<◌}
use native.Mathlib.Omega.{arith}
use native.Mathlib.Numerals.{add-one}
use native.Mathlib.Nat.{zero-add}
use mathlib.Core.Path.{◌≡◌, refl, sym, ap, ap₂, subst, ◌∙◌}
use mathlib.Core.Bool.{true, false}
use mathlib.Core.List.{List, append-nil}
use lib.IntN.{ℤ}
use lib.ListN.{length, get_or, set, length-append, length-set}
use lib.Seq.{sets, length-sets, get_or-set_other, set-get_or}
use Rattle.basics.specs.Lists.{sum, table}
use Rattle.basics.proofs.Everywhere.{every_map}
use Rattle.basics.proofs.Places.{set_case}
use Rattle.basics.proofs.Stores.{sets_ahead}
use Rattle.basics.proofs.TableSums.{sum_more}
use Rattle.netting.specs.Accounts.{transferred, Transferable}
use Rattle.offers.specs.declared.Offer.{Offer}
use Rattle.offers.specs.declared.Offers.{Offers}
use Rattle.offers.specs.Held.{most_offers, no_offers, listed_offers}
use Rattle.offers.specs.BuyIn.{given}
use Rattle.offers.proofs.Results.{all_lines_most}
use Rattle.ledger.specs.declared.Obligation.{Obligation}
use Rattle.ledger.specs.declared.Ledger.{Ledger}
use Rattle.ledger.specs.Setup.{ValidTerms}
use Rattle.ledger.specs.Obligations.{no_obligation, age_by, is_due, sides_of, Sound}
use Rattle.ledger.specs.Lines.{words_in_line, most_lines}
use Rattle.ledger.specs.Ledger.{most_obligations, obligation_at, SoundOffer}
use Rattle.closing.specs.declared.DayEnd.{DayEnd}
use Rattle.closing.specs.declared.Line.{Line}
use Rattle.closing.specs.declared.Closing.{Closing}
use Rattle.closing.specs.Lines.{flat, written, Room, Wrote}
use Rattle.closing.specs.Stages.{penalty_on}
use Rattle.closing.specs.Close.{stages, closed_at, rows_up_to, lines_up_to, accounts_up_to, closed_ledger, close_lines}
use Rattle.closing.specs.Asked.{Closes, Closable, ClosedAs}
use Rattle.closing.proofs.Fines.{fine_transferable, fined_due, fined_idle, bounded_up_to, accounts_length}
use Rattle.closing.proofs.Lines.{flat_length, flat_stores}
use Rattle.closing.proofs.Parts.{closed_most, due_stages, not_due_same}

module _ (d : DayEnd) (os : List Obligation) where
  -- ---- lines
  abbrev left : ℕ → ℕ
  left n = (get_or os n no_obligation).parts.outstanding

  up_to_most : (offers : List Offer) → ValidTerms d.setup.terms → (n : ℕ) →
      length (lines_up_to d offers os n) ≤ 2 * n + sum (table n (λ i. length (given i (left i) offers)))
  unfolding lines_up_to
  up_to_most offers h zero = omega arith
  up_to_most offers h (suc n) =
      omega (
        arith,
        up_to_most offers h n,
        length-append (lines_up_to d offers os n) (closed_at d offers os n).lines,
        closed_most d offers n (get_or os n no_obligation) h,
        sum_more n (λ i. length (given i (left i) offers)),
      )

  -- the most lines are enough for all obligations with all offers
  pub lines_most : (offers : Offers) → ValidTerms d.setup.terms → offers.count ≤ most_offers → (n : ℕ) → n ≤ most_obligations →
      length (lines_up_to d (listed_offers offers) os n) ≤ most_lines
  lines_most offers h few n m = omega (arith, up_to_most (listed_offers offers) h n, all_lines_most n left offers)

  -- ---- rows
  pub rows_length : (offers : List Offer) (n : ℕ) → length (rows_up_to d offers os n) ≡ length os
  unfolding rows_up_to
  rows_length offers zero = refl
  rows_length offers (suc n) = length-set (rows_up_to d offers os n) n (closed_at d offers os n).obligation ∙ rows_length offers n

  -- each of the first n rows is its obligation after its own Close
  pub rows_closed : (offers : List Offer) (n k : ℕ) → k < n → n ≤ length os → get_or (rows_up_to d offers os n) k no_obligation ≡ (closed_at d offers os k).obligation
  unfolding rows_up_to
  rows_closed offers zero k h m = absurd (omega arith)
  rows_closed offers (suc n) k h m =
      set_case (λ (o : Obligation). o ≡ (closed_at d offers os k).obligation) (rows_up_to d offers os n) n k
      (closed_at d offers os n).obligation no_obligation (omega (arith, rows_length offers n))
      (λ e. ap (λ (j : ℕ). (closed_at d offers os j).obligation) (sym e))
      (λ e. rows_closed offers n k (below h e) (omega arith))
    where
      below : k < suc n → (k ≡ n → ⊥) → k < n
      below a b = omega arith

  -- each row after the first n is as it was
  pub rows_behind : (offers : List Offer) (n k : ℕ) → n ≤ k → get_or (rows_up_to d offers os n) k no_obligation ≡ get_or os k no_obligation
  unfolding rows_up_to
  rows_behind offers zero k h = refl
  rows_behind offers (suc n) k h =
      get_or-set_other (rows_up_to d offers os n) n k (closed_at d offers os n).obligation no_obligation (apart h)
      ∙ rows_behind offers n k (omega arith)
    where
      apart : suc n ≤ k → k ≡ n → ⊥
      apart a b = omega arith

-- ---- a Close in its course
-- the rows after the first n obligations were closed, and their lines
pub record RowsDone (d : DayEnd) (offers : List Offer) (os : List Obligation) (n : ℕ) (next : List Obligation) (count : ℕ) (ws ws' : List ℕ) : Type 0 where
  pub rows : next ≡ rows_up_to d offers os n
  pub counted : count ≡ length (lines_up_to d offers os n)
  pub words : ws' ≡ sets ws 0 (flat (lines_up_to d offers os n))

module _ (d : DayEnd) (offers : List Offer) (os : List Obligation) (n : ℕ) (next : List Obligation) (count : ℕ) (ws ws' : List ℕ) (s : RowsDone d offers os n next count ws ws') where
  abbrev made : List Line
  made = lines_up_to d offers os n

  pub done_length : length ws' ≡ length ws
  done_length = ap (λ (l : List ℕ). length l) s.words ∙ length-sets ws 0 (flat made)

  pub done_one : (r : Closing) (ws'' : List ℕ) → Wrote (record { number = n; obligation = get_or os n no_obligation; count = count }) ws' r ws'' (closed_at d offers os n) →
      RowsDone d offers os (n + 1) (set next n r.obligation) r.count ws ws''
  unfolding rows_up_to lines_up_to
  done_one r ws'' w =
      let ms : List Line = (closed_at d offers os n).lines in
      rw (add-one n) (record {
        rows = ap₂ (λ (l : List Obligation) (o : Obligation). set l n o) s.rows w.made;
        counted = omega (arith, w.counted, s.counted, length-append made ms);
        words =
            w.words
            ∙ ap (λ (l : List ℕ). sets l (words_in_line * count) (flat ms)) s.words
            ∙ ap (λ (k : ℕ). sets (sets ws 0 (flat made)) (words_in_line * k) (flat ms)) s.counted
            ∙ rw zero-add at (flat_stores ws 0 made ms);
      })

  -- the lines are at the front, and the words after them are as they were
  pub done_all : words_in_line * length made ≤ length ws → ClosedAs (rows_up_to d offers os n) made next count ws ws'
  unfolding written
  done_all h = record {
    result = s.rows;
    counted = s.counted;
    words = s.words ∙ sets_ahead ws (flat made) (omega (arith, flat_length made));
  }

-- the lines of the next obligation have room
pub rows_room : (d : DayEnd) (l : Ledger) (n count : ℕ) (next : List Obligation) (ws ws' : List ℕ) → Closable d l ws → n < l.count →
    RowsDone d (listed_offers l.offers) l.obligations n next count ws ws' → Room count ws' (closed_at d (listed_offers l.offers) l.obligations n)
unfolding lines_up_to
rows_room d l n count next ws ws' c h s =
    omega (
      arith,
      lines_most d l.obligations l.offers c.end.setup.terms c.valid.offers.few (suc n) (omega (arith, c.valid.few)),
      length-append (lines_up_to d (listed_offers l.offers) l.obligations n) (closed_at d (listed_offers l.offers) l.obligations n).lines,
      s.counted,
      done_length d (listed_offers l.offers) l.obligations n next count ws ws' s,
      c.long,
    )

-- the requirement of the next obligation's Close holds
pub rows_closes : (d : DayEnd) (l : Ledger) (n : ℕ) (ws : List ℕ) → Closable d l ws → n < l.count → Closes d l.offers (obligation_at l n)
rows_closes d l n ws c h = record {
  sound = c.valid.sound n h;
  end = c.end;
  priced = record { few = c.valid.offers.few; prices = every_map (λ (x : Offer) (s : SoundOffer l.count x). s.price_most) c.valid.offers.sound };
}

-- the ledger in which the first n obligations are closed, and their penalties moved
abbrev ledger_up_to : DayEnd → Ledger → ℕ → Ledger
ledger_up_to d l n = record {
  obligations = rows_up_to d (listed_offers l.offers) l.obligations n;
  count = l.count;
  offers = l.offers;
  accounts = accounts_up_to d l.obligations l.accounts n;
}

-- the first n obligations are done
pub record Done (d : DayEnd) (l : Ledger) (n : ℕ) (next : Ledger) (count : ℕ) (ws ws' : List ℕ) : Type 0 where
  pub ledger : next ≡ ledger_up_to d l n
  pub counted : count ≡ length (lines_up_to d (listed_offers l.offers) l.obligations n)
  pub words : ws' ≡ sets ws 0 (flat (lines_up_to d (listed_offers l.offers) l.obligations n))

pub done_none : (d : DayEnd) (l : Ledger) (ws : List ℕ) → Done d l 0 l 0 ws ws
unfolding rows_up_to accounts_up_to lines_up_to flat
done_none d l ws = record { ledger = refl; counted = refl; words = refl }

module _ (d : DayEnd) (l : Ledger) (n : ℕ) (next : Ledger) (count : ℕ) (ws ws' : List ℕ) (s : Done d l n next count ws ws') where
  abbrev offers : List Offer
  offers = listed_offers l.offers

  abbrev o : Obligation
  o = obligation_at l n

  abbrev ls : List Line
  ls = lines_up_to d offers l.obligations n

  -- its rows and their lines
  rows_done : RowsDone d offers l.obligations n next.obligations count ws ws'
  rows_done = record { rows = ap (λ (k : Ledger). k.obligations) s.ledger; counted = s.counted; words = s.words }

  -- the next obligation, which is still as it was
  abbrev p : Obligation
  p = obligation_at next n

  p_same : p ≡ o
  p_same = ap (λ (k : Ledger). obligation_at k n) s.ledger ∙ rows_behind d l.obligations offers n n (omega arith)

  -- the offers are those of the day
  offers_same : listed_offers next.offers ≡ offers
  offers_same = ap (λ (k : Ledger). listed_offers k.offers) s.ledger

  -- there are as many accounts as before
  pub done_accounts : length next.accounts ≡ length l.accounts
  done_accounts = ap (λ (k : Ledger). length k.accounts) s.ledger ∙ accounts_length d l.obligations l.accounts n

  -- it is due, its penalty moved, and it was closed
  pub done_due : is_due d.today p ≡ true → (accounts : List ℤ) → accounts ≡ transferred (sides_of p).debtor (sides_of p).creditor (penalty_on d p) next.accounts →
      (r : Closing) (ws'' : List ℕ) → Wrote (record { number = n; obligation = p; count = count }) ws' r ws'' (stages d (age_by d.setup d.today p) (listed_offers next.offers) n p) →
      Done d l (n + 1) (record { obligations = set next.obligations n r.obligation; count = next.count; offers = next.offers; accounts = accounts }) r.count ws ws''
  unfolding rows_up_to accounts_up_to lines_up_to
  done_due f accounts b r ws'' w =
      let e : is_due d.today o ≡ true = rw p_same at f in
      let a : accounts ≡ transferred (sides_of o).debtor (sides_of o).creditor (penalty_on d o) next.accounts = rw p_same at b in
      let v : Wrote (record { number = n; obligation = o; count = count }) ws' r ws'' (closed_at d offers l.obligations n) = rw (due_stages d offers n o e) (rw (offers_same, p_same) at w) in
      let one : RowsDone d offers l.obligations (suc n) (set next.obligations n r.obligation) r.count ws ws'' =
      rw add-one at (done_one d offers l.obligations n next.obligations count ws ws' rows_done r ws'' v) in
      rw (add-one n) (record {
        ledger = λ i. record {
          obligations = one.rows i;
          count = (s.ledger i).count;
          offers = (s.ledger i).offers;
          accounts = (a ∙ ap (λ (k : Ledger). transferred (sides_of o).debtor (sides_of o).creditor (penalty_on d o) k.accounts) s.ledger ∙ sym (fined_due d o (ledger_up_to d l n).accounts e)) i;
        };
        counted = one.counted;
        words = one.words;
      })

  -- it is not due, so nothing is to be done
  pub done_idle : is_due d.today p ≡ false → Done d l (n + 1) next count ws ws'
  unfolding rows_up_to accounts_up_to lines_up_to
  done_idle f =
      let e : is_due d.today o ≡ false = rw p_same at f in
      let rows = rows_up_to d offers l.obligations n in
      let same = not_due_same d offers n o e in
      let stay : rows ≡ set rows n o = sym (set-get_or rows n no_obligation) ∙ ap (set rows n) (rows_behind d l.obligations offers n n (omega arith)) in
      let still : rows ≡ set rows n (closed_at d offers l.obligations n).obligation = rw same stay in
      let accounts = sym (fined_idle d o (ledger_up_to d l n).accounts e) in
      let after : ledger_up_to d l n ≡ ledger_up_to d l (suc n) = λ i. record { obligations = still i; count = l.count; offers = l.offers; accounts = accounts i } in
      rw (add-one n) (record {
        ledger = s.ledger ∙ after;
        counted = rw (same, append-nil ls) s.counted;
        words = rw (same, append-nil ls) s.words;
      })

  -- what its penalty and its Close require, and the room for its lines
  module _ (c : Closable d l ws) (h : n < l.count) where
    pub done_sound : Sound p
    done_sound = rw p_same (c.valid.sound n h)

    pub done_transferable : Transferable (sides_of p).debtor (sides_of p).creditor (penalty_on d p) next.accounts
    done_transferable =
        fine_transferable d p next.accounts c.end done_sound
        (rw (ap (λ (k : Ledger). k.accounts) s.ledger) (bounded_up_to d l c.end c.valid n (omega arith) c.accounts_near))

    pub done_closes : Closes d next.offers p
    done_closes = rw (p_same, ap (λ (k : Ledger). k.offers) s.ledger) (rows_closes d l n ws c h)

    pub done_room : is_due d.today p ≡ true → Room count ws' (stages d (age_by d.setup d.today p) (listed_offers next.offers) n p)
    done_room f =
        let e : is_due d.today o ≡ true = rw p_same at f in
        rw (offers_same, p_same, ← due_stages d offers n o e) (rows_room d l n count next.obligations ws ws' c h rows_done)

-- the ledger with other offers
abbrev with_offers : Offers → Ledger → Ledger
with_offers offers l = record { obligations = l.obligations; count = l.count; offers = offers; accounts = l.accounts }

-- After the last obligation the offers are removed. The lines are at the front, and the words after them are as they
-- were.
pub done_closed : (d : DayEnd) (l next : Ledger) (n count : ℕ) (ws ws' : List ℕ) (none : Offers) → Closable d l ws → n ≡ l.count → Done d l n next count ws ws' → none ≡ no_offers →
    ClosedAs (closed_ledger d l) (close_lines d l) (with_offers none next) count ws ws'
done_closed d l next n count ws ws' none c all done e =
    let s : Done d l l.count next count ws ws' = subst (λ (k : ℕ). Done d l k next count ws ws') all done in
    let most = lines_most d l.obligations l.offers c.end.setup.terms c.valid.offers.few l.count c.valid.few in
    let closed =
    done_all d (listed_offers l.offers) l.obligations l.count next.obligations count ws ws'
    (rows_done d l l.count next count ws ws' s) (omega (arith, most, c.long)) in
    record { result = λ i. with_offers (e i) (s.ledger i); counted = closed.counted; words = closed.words }
