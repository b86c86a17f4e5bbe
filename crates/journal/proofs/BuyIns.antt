-- At every accepted Close the offers are taken in their order: `known_bought` at the end.
use Rattle.std.specs.Prelude.{Option, None, Some}
use Prim.Native.Nat.{ℕ}
use native.Mathlib.Omega.{arith}
use mathlib.Core.Path.{◌≡◌, refl, sym, ap, ap₂, ◌∙◌}
use mathlib.Core.Bool.{Bool, true, false, ◌&&◌, false≢true}
use mathlib.Core.List.{List, [], ◌∷◌, ◌++◌, map, append-nil}
use lib.Dec.{eqb}
use borrow.Author.Tests.{eq-eqb, ltb-true}
use Rattle.basics.specs.Choice.{pick}
use Rattle.basics.proofs.Cases.{pick_case, and_true}
use Rattle.offers.specs.declared.Offer.{Offer}
use Rattle.offers.specs.declared.Given.{Given}
use Rattle.offers.specs.Rank.{ranked}
use Rattle.offers.specs.Held.{listed_offers}
use Rattle.offers.specs.BuyIn.{given}
use Rattle.offers.proofs.Ranking.{ranked_in_order}
use Rattle.ledger.specs.declared.Setup.{Setup}
use Rattle.ledger.specs.declared.Part.TheVariants.{BoughtIn}
use Rattle.ledger.specs.declared.Parts.{Parts}
use Rattle.ledger.specs.declared.Obligation.{Obligation}
use Rattle.ledger.specs.Obligations.{age_by, last_of, is_due, in_buy_in, moving}
use Rattle.ledger.specs.Ledger.{obligation_at}
use Rattle.closing.specs.declared.DayEnd.{DayEnd}
use Rattle.closing.specs.declared.Line.{Line}
use Rattle.closing.specs.Lines.{Made, then}
use Rattle.closing.specs.Stages.{penalty_on, measures_at, penalised, notice_at, bought_from, bought_all, buy_in_at, compensated, compensated_at}
use Rattle.closing.specs.Close.{closed_one, close_lines}
use Rattle.closing.proofs.Parts.{priced_parts, measures, first, bought, stages_lines}
use Rattle.book.specs.declared.Book.{Book}
use Rattle.book.specs.Book.{age_of}
use Rattle.book.proofs.Outcomes.{Ends}
use Rattle.book.proofs.Ended.{ends_age, ends_last, ends_due}
use Rattle.journal.specs.Calls.{Opening, Event, Run}
use Rattle.journal.specs.Facts.{Instructed, part_of_kind, is_part, Ended, is_end, reported, facts}
use Rattle.journal.specs.Sums.{terms_in, age_in, last_in}
use Rattle.journal.specs.History.{offers_in}
use Rattle.journal.specs.Promise.{Purchase, purchases_in, purchase_from, BuysInTurn, EveryBuyIn}
use Rattle.journal.proofs.Moves.{Held, Agrees, told_held, outstanding_is, age_is, last_is}
use Rattle.journal.proofs.Turns.{reached}
use Rattle.journal.proofs.Reported.{purchases_one}
use Rattle.journal.proofs.Model.{Known}
use Rattle.journal.proofs.Recalling.{Recalls, each_known}
use Rattle.journal.proofs.Does.{Does}

-- ---- the lines of one obligation
purchases_append : (n : ℕ) (xs ys : List Line) → purchases_in n (xs ++ ys) ≡ purchases_in n xs ++ purchases_in n ys
unfolding purchases_in
purchases_append n [] ys = refl
purchases_append n (l ∷ xs) ys = rw (purchases_append n xs ys) (by (is_part BoughtIn (part_of_kind l.kind) && eqb l.obligation n))
  where
    p : Purchase
    p = record { quantity = l.quantity; supplier = l.supplier; price = l.price }

    by : (t : Bool) → pick t (p ∷ (purchases_in n xs ++ purchases_in n ys)) (purchases_in n xs ++ purchases_in n ys) ≡ pick t (p ∷ purchases_in n xs) (purchases_in n xs) ++ purchases_in n ys
    by true = refl
    by false = refl

module _ (n : ℕ) where
  -- what is given is bought in, offer by offer
  purchases_bought : (gs : List Given) (o : Obligation) → purchases_in n (bought_all n gs o).lines ≡ map purchase_from gs
  unfolding purchases_in bought_all bought_from then
  purchases_bought [] o = refl
  purchases_bought (g ∷ gs) o =
      rw (eq-eqb n n refl) (ap (λ (ps : List Purchase). purchase_from g ∷ ps) (purchases_bought gs (moving BoughtIn g.quantity o)))

  -- the other parts of a Close buy nothing in
  notice_none : (comes : Bool) (o : Obligation) → purchases_in n (notice_at comes n o).lines ≡ []
  unfolding purchases_in notice_at
  notice_none comes o = pick_case (λ (m : Made). purchases_in n m.lines ≡ []) comes _ _ (λ e. refl) (λ e. refl)

  compensated_none : (comes : Bool) (price : ℕ) (o : Obligation) → purchases_in n (compensated_at comes price n o).lines ≡ []
  unfolding purchases_in compensated_at compensated
  compensated_none comes price o =
      pick_case (λ (m : Made). purchases_in n m.lines ≡ []) comes _ _
      (λ e. pick_case (λ (m : Made). purchases_in n m.lines ≡ []) (eqb o.parts.outstanding 0) _ _ (λ f. refl) (λ f. refl))
      (λ e. refl)

  -- lines of four parts, of which the third buys in
  third_buys : (xs ys zs us : List Line) → purchases_in n xs ≡ [] → purchases_in n ys ≡ [] → purchases_in n us ≡ [] → purchases_in n (((xs ++ ys) ++ zs) ++ us) ≡ purchases_in n zs
  third_buys xs ys zs us p q r =
      purchases_append n ((xs ++ ys) ++ zs) us
      ∙ rw (purchases_append n (xs ++ ys) zs, purchases_append n xs ys, p, q, r) (append-nil (purchases_in n zs))

  -- all parts together, where the Close buys in
  purchases_closed : (d : DayEnd) (offers : List Offer) (o : Obligation) → is_due d.today o ≡ true →
      (measures_at d.setup.terms (age_by d.setup d.today o) o).buy_in ≡ true →
      purchases_in n (closed_one d offers n o).lines ≡ map purchase_from (given n o.parts.outstanding offers)
  unfolding closed_one buy_in_at penalised purchases_in
  purchases_closed d offers o due days =
      let age = age_by d.setup d.today o in
      let m = measures d age offers n o in
      let start = first d age offers n o in
      let buys = bought d age offers n o in
      let same : start.parts.outstanding ≡ o.parts.outstanding = ap (λ (p : Parts). p.outstanding) (priced_parts d.setup.terms age d.price o) in
      rw (due, stages_lines d age offers n o)
      (third_buys (penalised n (penalty_on d o) start).lines (notice_at m.notice n start).lines buys.lines (compensated_at m.compensation d.price n buys.obligation).lines
      refl (notice_none m.notice start) (compensated_none m.compensation d.price buys.obligation)
      ∙ rw days (purchases_bought (given n start.parts.outstanding offers) start)
      ∙ ap (λ (q : ℕ). map purchase_from (given n q offers)) same)

-- ---- every call
module _ (o : Opening) (b : Book) (es : List Event) (g : Agrees o b es) (k : Recalls b es) where
  -- an obligation in its buy-in days by the events is in them in the book
  days_are : (n : ℕ) (i : Instructed) → Held b n i → in_buy_in (terms_in o).grace.0 (last_in o n i es) (age_in o i es) ≡ true →
      in_buy_in b.setup.terms.grace.0 (last_of b.setup.terms (obligation_at b.ledger n)) (age_of b (obligation_at b.ledger n)) ≡ true
  days_are n i h days = rw (← last_is o b es g n i h, ← age_is o b es g n i h, ap (λ (s : Setup). s.terms.grace.0) g.setup) days

  close_bought : (d : DayEnd) → Ends b d → BuysInTurn o es (close_lines d b.ledger)
  unfolding measures_at
  close_bought d e n i there open_still told =
      let h = told_held o b es g n i there in
      let row = obligation_at b.ledger n in
      let left = outstanding_is o b es g n i there in
      let days = days_are n i h told in
      let above = ltb-true b.setup.terms.grace.0 (age_of b row) (and_true _ _ days).0 in
      let due = ends_due b g.valid d e row (reached b row (omega (arith, above))) (omega (arith, open_still, left)) in
      record {
        turns = ranked (offers_in es);
        in_turn = ranked_in_order (offers_in es);
        lines = purchases_one d (listed_offers b.ledger.offers) b.ledger.obligations b.ledger.count n h.below
            ∙ purchases_closed n d (listed_offers b.ledger.offers) row due (rw (ends_age b g.valid d e row, ends_last b g.valid d e row, e.setup) days)
            ∙ ap₂ (λ (q : ℕ) (xs : List Offer). map purchase_from (given n q xs)) (sym left) k.offers;
      }

  ended_bought : (after : Book) (e : Event) → Does b after (facts e) e.words → is_end (facts e).ends ≡ true → BuysInTurn o es (reported (facts e).ends)
  ended_bought after e d t = by (facts e).ends refl t
    where
      by : (x : Option Ended) → (facts e).ends ≡ x → is_end x ≡ true → BuysInTurn o es (reported x)
      by None q r = absurd (false≢true r)
      by (Some y) q r = let c = d.closes y q in rw c.lines (close_bought c.end c.ends)

-- ---- every run
pub known_bought : (s : Run) → Known s → EveryBuyIn s.opening s.past
known_bought = each_known _ (λ o b after es e g k d. ended_bought o b es g k after e d)
