-- How large the numbers of the lines of a Close are: `lines_sound` at the end.
use Prim.Native.Nat.{ℕ, zero, suc, ◌≤◌, ◌<◌}
use native.Mathlib.Omega.{arith}
use mathlib.Core.Bool.{Bool}
use mathlib.Core.List.{List, [], ◌∷◌}
use lib.Dec.{eqb}
use Rattle.basics.specs.Lists.{Every}
use Rattle.basics.specs.Lists.Every.{nobody, also}
use Rattle.basics.proofs.Cases.{pick_case}
use Rattle.basics.proofs.Everywhere.{every_append}
use Rattle.amounts.specs.Amounts.{most_close_price}
use Rattle.offers.specs.declared.Offer.{Offer}
use Rattle.offers.specs.declared.Given.{Given}
use Rattle.offers.specs.Held.{listed_offers}
use Rattle.offers.proofs.Giving.{Within, given_within, given_keeps}
use Rattle.ledger.specs.declared.Obligation.{Obligation}
use Rattle.ledger.specs.declared.Ledger.{Ledger}
use Rattle.ledger.specs.Obligations.{age_by, is_due, Sound}
use Rattle.ledger.specs.Ledger.{most_obligations, obligation_at, SoundOffer}
use Rattle.ledger.proofs.Keeping.{outstanding_most}
use Rattle.closing.specs.declared.DayEnd.{DayEnd}
use Rattle.closing.specs.Lines.{most_kind, SoundLine, Made, then}
use Rattle.closing.specs.Stages.{plain_line, penalty_on, penalised, notice_at, bought_line, bought_from, bought_all, buy_in_at, compensated, compensated_at}
use Rattle.closing.specs.Close.{stages, closed_one, lines_up_to, close_lines}
use Rattle.closing.specs.Asked.{Closable}
use Rattle.closing.proofs.Parts.{priced_goes, buy_in_goes, measures, first, bought, stages_lines}

-- the lines of a part of a Close
abbrev Sized : Made → Type 0
Sized m = Every SoundLine m.lines

module _ (n : ℕ) (h : n < most_obligations) where
  plain_sized : (kind cents : ℕ) (o : Obligation) → kind ≤ most_kind → Sound o → Every SoundLine (plain_line kind n o.parts.outstanding cents ∷ [])
  plain_sized kind cents o k s =
      let size : SoundLine (plain_line kind n o.parts.outstanding cents) =
      record { kind_most = k; there = h; quantity_most = outstanding_most o s; supplier_most = omega arith; price_most = omega arith } in
      also size nobody

  penalty_sized : (cents : ℕ) (o : Obligation) → Sound o → Sized (penalised n cents o)
  unfolding penalised
  penalty_sized cents o s = plain_sized _ _ o (omega arith) s

  notice_sized : (comes : Bool) (o : Obligation) → Sound o → Sized (notice_at comes n o)
  unfolding notice_at
  notice_sized comes o s = pick_case Sized comes _ _ (λ e. plain_sized _ _ o (omega arith) s) (λ e. nobody)

  bought_from_sized : (m : ℕ) (g : Given) (o : Obligation) → Within g → SoundOffer m g.offer → Sized (bought_from n g o)
  unfolding bought_from
  bought_from_sized m g o w s =
      let size : SoundLine (bought_line n g o) = record {
        kind_most = omega arith;
        there = h;
        quantity_most = omega (arith, w.most, s.quantity_most);
        supplier_most = s.supplier_most;
        price_most = s.price_most;
      } in
      also size nobody

  bought_sized : (m : ℕ) {gs : List Given} (o : Obligation) → Every Within gs → Every (λ g. SoundOffer m g.offer) gs → Sized (bought_all n gs o)
  unfolding bought_all then
  bought_sized m o nobody nobody = nobody
  bought_sized m o (also {x} {xs} w ws) (also s ss) =
      every_append (bought_from_sized m x o w s) (bought_sized m (bought_from n x o).obligation ws ss)

  buy_in_sized : (m : ℕ) (comes : Bool) (offers : List Offer) (o : Obligation) → Every (SoundOffer m) offers → Sized (buy_in_at comes offers n o)
  unfolding buy_in_at
  buy_in_sized m comes offers o s =
      pick_case Sized comes _ _
      (λ e. bought_sized m o (given_within n o.parts.outstanding offers) (given_keeps n o.parts.outstanding s))
      (λ e. nobody)

  compensated_sized : (comes : Bool) (price : ℕ) (o : Obligation) → Sound o → Sized (compensated_at comes price n o)
  unfolding compensated_at compensated
  compensated_sized comes price o s =
      pick_case Sized comes _ _
      (λ e. pick_case Sized (eqb o.parts.outstanding 0) _ _ (λ z. nobody) (λ z. plain_sized _ _ o (omega arith) s))
      (λ e. nobody)

  closed_sized : (m : ℕ) (d : DayEnd) (offers : List Offer) (o : Obligation) → d.price ≤ most_close_price → Sound o → Every (SoundOffer m) offers → Sized (closed_one d offers n o)
  unfolding closed_one
  closed_sized m d offers o p s xs = pick_case Sized (is_due d.today o) _ _ (λ e. all) (λ e. nobody)
    where
      age : ℕ
      age = age_by d.setup d.today o

      all : Sized (stages d age offers n o)
      all =
          let q = first d age offers n o in
          let t = (priced_goes d.setup.terms age d.price o p s).sound in
          let b = bought d age offers n o in
          let m' = measures d age offers n o in
          rw (stages_lines d age offers n o)
          (every_append
          (every_append (every_append (penalty_sized (penalty_on d o) q t) (notice_sized m'.notice q t)) (buy_in_sized m m'.buy_in offers q xs))
          (compensated_sized m'.compensation d.price b.obligation (buy_in_goes m'.buy_in offers n q t).sound))

-- every line of a Close
pub lines_sound : (d : DayEnd) (l : Ledger) (ws : List ℕ) → Closable d l ws → Every SoundLine (close_lines d l)
unfolding lines_up_to
lines_sound d l ws c = up_to l.count (omega arith)
  where
    up_to : (n : ℕ) → n ≤ l.count → Every SoundLine (lines_up_to d (listed_offers l.offers) l.obligations n)
    up_to zero h = nobody
    up_to (suc n) h =
        every_append (up_to n (omega arith))
        (closed_sized n (omega (arith, c.valid.few)) l.count d (listed_offers l.offers) (obligation_at l n) c.end.price_most (c.valid.sound n (omega arith)) c.valid.offers.sound)
