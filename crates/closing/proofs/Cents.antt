-- The cents of the penalties of a Close: `penalty_lines` at the end.
use Prim.Native.Nat.{ℕ, zero, suc}
use native.Mathlib.Omega.{arith}
use mathlib.Core.Path.{◌≡◌, sym, ap}
use mathlib.Core.Bool.{Bool}
use mathlib.Core.List.{List, [], ◌∷◌}
use lib.Dec.{eqb}
use Rattle.basics.specs.Lists.{Every}
use Rattle.basics.specs.Lists.Every.{nobody, also}
use Rattle.basics.proofs.Cases.{pick_case}
use Rattle.basics.proofs.Everywhere.{every_append}
use Rattle.amounts.specs.Amounts.{penalty}
use Rattle.offers.specs.declared.Offer.{Offer}
use Rattle.offers.specs.declared.Given.{Given}
use Rattle.offers.specs.Held.{listed_offers}
use Rattle.ledger.specs.declared.Parts.{Parts}
use Rattle.ledger.specs.declared.Obligation.{Obligation}
use Rattle.ledger.specs.declared.Ledger.{Ledger}
use Rattle.ledger.specs.Obligations.{age_by, is_due}
use Rattle.closing.specs.declared.DayEnd.{DayEnd}
use Rattle.closing.specs.declared.Line.{Line}
use Rattle.closing.specs.Lines.{penalty_kind, Made, then}
use Rattle.closing.specs.Stages.{penalty_on, penalised, notice_at, bought_line, bought_from, bought_all, buy_in_at, compensated, compensated_at}
use Rattle.closing.specs.Close.{stages, closed_one, lines_up_to, close_lines}
use Rattle.closing.proofs.Parts.{priced_parts, measures, first, bought, stages_lines}

module _ (d : DayEnd) where
  -- if a line is a penalty, its cents are those of its quantity at the end of this day
  abbrev pub PenaltyAt : Line → Type 0
  PenaltyAt l = l.kind ≡ penalty_kind → l.cents ≡ penalty l.quantity d.price d.rate

  abbrev Right : Made → Type 0
  Right m = Every PenaltyAt m.lines

  module _ (n : ℕ) where
    notice_right : (comes : Bool) (o : Obligation) → Right (notice_at comes n o)
    unfolding notice_at
    notice_right comes o = pick_case Right comes _ _ (λ e. also (λ k. absurd (omega (arith, k))) nobody) (λ e. nobody)

    bought_right : (gs : List Given) (o : Obligation) → Right (bought_all n gs o)
    unfolding bought_all bought_from then
    bought_right [] o = nobody
    bought_right (g ∷ gs) o = also {x = bought_line n g o} (λ k. absurd (omega (arith, k))) (bought_right gs (bought_from n g o).obligation)

    buy_in_right : (comes : Bool) (offers : List Offer) (o : Obligation) → Right (buy_in_at comes offers n o)
    unfolding buy_in_at
    buy_in_right comes offers o = pick_case Right comes _ _ (λ e. bought_right _ o) (λ e. nobody)

    compensated_right : (comes : Bool) (price : ℕ) (o : Obligation) → Right (compensated_at comes price n o)
    unfolding compensated_at compensated
    compensated_right comes price o =
        pick_case Right comes _ _
        (λ e. pick_case Right (eqb o.parts.outstanding 0) _ _ (λ z. nobody) (λ z. also (λ k. absurd (omega (arith, k))) nobody))
        (λ e. nobody)

    closed_right : (offers : List Offer) (o : Obligation) → Right (closed_one d offers n o)
    unfolding closed_one penalised penalty_on
    closed_right offers o = pick_case Right (is_due d.today o) _ _ (λ e. all) (λ e. nobody)
      where
        age : ℕ
        age = age_by d.setup d.today o

        q : Obligation
        q = first d age offers n o

        fined : Right (penalised n (penalty_on d o) q)
        fined = also (λ k. ap (λ (p : Parts). penalty p.outstanding d.price d.rate) (sym (priced_parts d.setup.terms age d.price o))) nobody

        all : Right (stages d age offers n o)
        all =
            let m = measures d age offers n o in
            let b = bought d age offers n o in
            rw (stages_lines d age offers n o)
            (every_append
            (every_append (every_append fined (notice_right m.notice q)) (buy_in_right m.buy_in offers q))
            (compensated_right m.compensation d.price b.obligation))

  -- C4, Close: every penalty among the lines of a Close
  pub penalty_lines : (l : Ledger) → Every PenaltyAt (close_lines d l)
  unfolding lines_up_to
  penalty_lines l = up_to l.count
    where
      up_to : (n : ℕ) → Every PenaltyAt (lines_up_to d (listed_offers l.offers) l.obligations n)
      up_to zero = nobody
      up_to (suc n) = every_append (up_to n) (closed_right n (listed_offers l.offers) _)
