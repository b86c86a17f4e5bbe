-- Laws on what each part of a Close leaves of an obligation. It is sound and has the same deal,
-- and the quantities in its lines are those that moved.
use Prim.Native.Nat.{ℕ, ◌+◌, ◌≤◌}
use native.Mathlib.Omega.{arith}
use mathlib.Core.Path.{◌≡◌, refl, ap, ◌∙◌}
use mathlib.Core.Bool.{Bool, true, false}
use mathlib.Core.List.{List, ◌++◌}
use lib.Dec.{eqb}
use lib.ListN.{length, take, length-append}
use borrow.Author.Tests.{eqb-true, eq-eqb, ne_eqb}
use Rattle.basics.proofs.Cases.{pick_case}
use Rattle.amounts.specs.Amounts.{most_close_price}
use Rattle.offers.specs.declared.Offer.{Offer}
use Rattle.offers.specs.declared.Given.{Given}
use Rattle.offers.specs.declared.Offers.{Offers}
use Rattle.offers.specs.declared.BuyIn.{BuyIn}
use Rattle.offers.specs.Held.{listed_offers}
use Rattle.offers.specs.BuyIn.{given, units, bought_with}
use Rattle.offers.proofs.Giving.{given_units, given_keeps}
use Rattle.offers.proofs.Results.{bought_given}
use Rattle.ledger.specs.declared.Terms.{Terms}
use Rattle.ledger.specs.declared.Part.TheVariants.{BoughtIn, Compensated}
use Rattle.ledger.specs.declared.Parts.{Parts}
use Rattle.ledger.specs.declared.Obligation.{Obligation}
use Rattle.ledger.specs.Setup.{ValidTerms}
use Rattle.ledger.specs.Obligations.{age_by, last_of, is_due, moving, Sound}
use Rattle.ledger.proofs.Keeping.{moving_sound, takes_all, priced_sound, Later, later_same, later_then, moving_later, priced_later, last_after}
use Rattle.closing.specs.declared.DayEnd.{DayEnd}
use Rattle.closing.specs.declared.Measures.{Measures}
use Rattle.closing.specs.Lines.{Made, nothing, then}
use Rattle.closing.specs.Stages.{priced, penalty_on, measures_at, penalised, notice_at, bought_all, buy_in_at, compensated, compensated_at}
use Rattle.closing.specs.Close.{course, stages, closed_one}
use Rattle.closing.specs.Asked.{Priced, Buys}
use Rattle.closing.proofs.Bought.{bought_obligation, bought_length}

-- r is sound, and it is o at a later time
pub record Goes (o r : Obligation) : Type 0 where
  pub sound : Sound r
  pub later : Later o r

pub goes_same : (o : Obligation) → Sound o → Goes o o
goes_same o s = record { sound = s; later = later_same o }

pub goes_then : (o p r : Obligation) → Goes o p → Goes p r → Goes o r
goes_then o p r a b = record { sound = b.sound; later = later_then o p r a.later b.later }

-- the offers give no more than is outstanding
pub given_enough : (n : ℕ) (offers : List Offer) (o : Obligation) → units (given n o.parts.outstanding offers) ≤ o.parts.outstanding
given_enough n offers o = omega (arith, given_units n o.parts.outstanding offers)

pub priced_goes : (terms : Terms) (age price : ℕ) (o : Obligation) → price ≤ most_close_price → Sound o → Goes o (priced terms age price o)
unfolding priced
priced_goes terms age price o h s =
    pick_case (Goes o) (eqb age terms.grace.0) _ _
    (λ e. record { sound = priced_sound o price h s; later = priced_later o price })
    (λ e. goes_same o s)

-- storing the price moves no quantity
pub priced_parts : (terms : Terms) (age price : ℕ) (o : Obligation) → (priced terms age price o).parts ≡ o.parts
unfolding priced
priced_parts terms age price o = pick_case (λ (p : Obligation). p.parts ≡ o.parts) (eqb age terms.grace.0) _ _ (λ e. refl) (λ e. refl)

-- a notice leaves the obligation as it is
pub notice_same : (comes : Bool) (n : ℕ) (o : Obligation) → (notice_at comes n o).obligation ≡ o
unfolding notice_at
notice_same comes n o = pick_case (λ (m : Made). m.obligation ≡ o) comes _ _ (λ e. refl) (λ e. refl)

bought_goes : (n : ℕ) (gs : List Given) (o : Obligation) → Sound o → units gs ≤ o.parts.outstanding → Goes o (bought_all n gs o).obligation
bought_goes n gs o s h =
    rw (bought_obligation n gs o) (record { sound = moving_sound BoughtIn o (units gs) (record { sound = s; enough = h }); later = moving_later BoughtIn o (units gs) })

pub buy_in_goes : (comes : Bool) (offers : List Offer) (n : ℕ) (o : Obligation) → Sound o → Goes o (buy_in_at comes offers n o).obligation
unfolding buy_in_at
buy_in_goes comes offers n o s =
    pick_case (λ (m : Made). Goes o m.obligation) comes _ _
    (λ e. bought_goes n (given n o.parts.outstanding offers) o s (given_enough n offers o))
    (λ e. goes_same o s)

compensated_goes : (price n : ℕ) (o : Obligation) → Sound o → Goes o (compensated price n o).obligation
unfolding compensated
compensated_goes price n o s =
    pick_case (λ (m : Made). Goes o m.obligation) (eqb o.parts.outstanding 0) _ _
    (λ e. goes_same o s)
    (λ e. record { sound = moving_sound Compensated o _ (takes_all o s); later = moving_later Compensated o _ })

pub compensated_at_goes : (comes : Bool) (price n : ℕ) (o : Obligation) → Sound o → Goes o (compensated_at comes price n o).obligation
unfolding compensated_at
compensated_at_goes comes price n o s =
    pick_case (λ (m : Made). Goes o m.obligation) comes _ _
    (λ e. compensated_goes price n o s)
    (λ e. goes_same o s)

-- ---- all parts of a Close together
module _ (d : DayEnd) (age : ℕ) (offers : List Offer) (n : ℕ) (o : Obligation) where
  -- what is done beside the penalty
  abbrev pub measures : Measures
  measures = measures_at d.setup.terms age o

  -- the obligation before the buy-in, with its price stored
  abbrev pub first : Obligation
  first = priced d.setup.terms age d.price o

  abbrev pub bought : Made
  bought = buy_in_at measures.buy_in offers n first

  pub stages_obligation : (stages d age offers n o).obligation ≡ (compensated_at measures.compensation d.price n bought.obligation).obligation
  unfolding stages course then penalised
  stages_obligation = rw (notice_same measures.notice n first)

  pub stages_lines : (stages d age offers n o).lines ≡
      (((penalised n (penalty_on d o) first).lines ++ (notice_at measures.notice n first).lines) ++ bought.lines)
      ++ (compensated_at measures.compensation d.price n bought.obligation).lines
  unfolding stages course then penalised
  stages_lines = rw (notice_same measures.notice n first)

  pub stages_goes : d.price ≤ most_close_price → Sound o → Goes o (stages d age offers n o).obligation
  stages_goes h s =
      let a = priced_goes d.setup.terms age d.price o h s in
      let b = buy_in_goes measures.buy_in offers n first a.sound in
      let c = compensated_at_goes measures.compensation d.price n bought.obligation b.sound in
      rw stages_obligation (goes_then o first _ a (goes_then first bought.obligation _ b c))

pub closed_goes : (d : DayEnd) (offers : List Offer) (n : ℕ) (o : Obligation) → d.price ≤ most_close_price → Sound o → Goes o (closed_one d offers n o).obligation
unfolding closed_one
closed_goes d offers n o h s =
    pick_case (λ (m : Made). Goes o m.obligation) (is_due d.today o) _ _
    (λ e. stages_goes d (age_by d.setup d.today o) offers n o h s)
    (λ e. goes_same o s)

-- ---- what stays beside the quantities
-- r is o but for its parts
pub record Beside (o r : Obligation) : Type 0 where
  pub deal : r.deal ≡ o.deal
  pub stage : r.stage ≡ o.stage
  pub wishes : r.wishes ≡ o.wishes

beside_same : (o : Obligation) → Beside o o
beside_same o = record { deal = refl; stage = refl; wishes = refl }

buy_in_beside : (comes : Bool) (offers : List Offer) (n : ℕ) (o : Obligation) → Beside o (buy_in_at comes offers n o).obligation
unfolding buy_in_at moving
buy_in_beside comes offers n o =
    pick_case (λ (m : Made). Beside o m.obligation) comes _ _
    (λ e. rw (bought_obligation n (given n o.parts.outstanding offers) o) (record { deal = refl; stage = refl; wishes = refl }))
    (λ e. beside_same o)

compensated_beside : (comes : Bool) (price n : ℕ) (o : Obligation) → Beside o (compensated_at comes price n o).obligation
unfolding compensated_at compensated moving
compensated_beside comes price n o =
    pick_case (λ (m : Made). Beside o m.obligation) comes _ _
    (λ e. pick_case (λ (m : Made). Beside o m.obligation) (eqb o.parts.outstanding 0) _ _ (λ f. beside_same o) (λ f. record { deal = refl; stage = refl; wishes = refl }))
    (λ e. beside_same o)

-- all that a Close of an obligation changes beside its parts is the price that it stores
pub stages_beside : (d : DayEnd) (age : ℕ) (offers : List Offer) (n : ℕ) (o : Obligation) → Beside (first d age offers n o) (stages d age offers n o).obligation
stages_beside d age offers n o =
    let m = measures d age offers n o in
    let p = buy_in_beside m.buy_in offers n (first d age offers n o) in
    let q = compensated_beside m.compensation d.price n (bought d age offers n o).obligation in
    rw (stages_obligation d age offers n o) (record { deal = q.deal ∙ p.deal; stage = q.stage ∙ p.stage; wishes = q.wishes ∙ p.wishes })

-- ---- how many lines
-- no Close decides on both a notice and a compensation for one obligation
not_both : (terms : Terms) (age : ℕ) (o : Obligation) → ValidTerms terms → (measures_at terms age o).notice ≡ true → (measures_at terms age o).compensation ≡ true → ⊥
unfolding measures_at
not_both terms age o h e f =
    omega (arith, h.notice_before, last_after terms o h, eqb-true age terms.notice.0 e, eqb-true age (last_of terms o) f)

-- so it makes one line of the two at most
extras_most : (notice compensation : Bool) (price n : ℕ) (o r : Obligation) → (notice ≡ true → compensation ≡ true → ⊥) →
    length (notice_at notice n o).lines + length (compensated_at compensation price n r).lines ≤ 1
unfolding notice_at compensated_at compensated
extras_most true true price n o r h = absurd (h refl refl)
extras_most true false price n o r h = omega arith
extras_most false true price n o r h =
    pick_case (λ (m : Made). 0 + length m.lines ≤ 1) (eqb r.parts.outstanding 0) _ _ (λ g. omega arith) (λ g. omega arith)
extras_most false false price n o r h = omega arith

pub compensated_one : (price n : ℕ) (o : Obligation) → (o.parts.outstanding ≡ 0 → ⊥) → length (compensated_at true price n o).lines ≡ 1
unfolding compensated_at compensated
compensated_one price n o f = rw (ne_eqb o.parts.outstanding 0 f)

pub bought_in_most : (comes : Bool) (offers : List Offer) (n : ℕ) (o : Obligation) →
    length (buy_in_at comes offers n o).lines ≤ length (given n o.parts.outstanding offers)
unfolding buy_in_at
bought_in_most comes offers n o =
    pick_case (λ (m : Made). length m.lines ≤ length (given n o.parts.outstanding offers)) comes _ _
    (λ e. omega (arith, bought_length n (given n o.parts.outstanding offers) o))
    (λ e. omega arith)

pub stages_most : (d : DayEnd) (age : ℕ) (offers : List Offer) (n : ℕ) (o : Obligation) → ValidTerms d.setup.terms →
    length (stages d age offers n o).lines ≤ 2 + length (given n o.parts.outstanding offers)
unfolding penalised
stages_most d age offers n o h =
    let p = first d age offers n o in
    let b = bought d age offers n o in
    let m = measures d age offers n o in
    let ns = (notice_at m.notice n p).lines in
    let cs = (compensated_at m.compensation d.price n b.obligation).lines in
    let ps = (penalised n (penalty_on d o) p).lines in
    let left = ap (λ (q : Parts). length (given n q.outstanding offers)) (priced_parts d.setup.terms age d.price o) in
    rw (stages_lines d age offers n o)
    (omega (
      arith,
      length-append ((ps ++ ns) ++ b.lines) cs,
      length-append (ps ++ ns) b.lines,
      length-append ps ns,
      extras_most m.notice m.compensation d.price n p b.obligation (not_both d.setup.terms age o h),
      bought_in_most m.buy_in offers n p,
      left,
    ))

pub closed_most : (d : DayEnd) (offers : List Offer) (n : ℕ) (o : Obligation) → ValidTerms d.setup.terms →
    length (closed_one d offers n o).lines ≤ 2 + length (given n o.parts.outstanding offers)
unfolding closed_one
closed_most d offers n o h =
    pick_case (λ (m : Made). length m.lines ≤ 2 + length (given n o.parts.outstanding offers)) (is_due d.today o) _ _
    (λ e. stages_most d (age_by d.setup d.today o) offers n o h)
    (λ e. omega arith)

-- ---- what a pass over the offers has found
pub given_listed : (gs : List Given) (b : BuyIn) → b ≡ bought_with gs → take b.count b.given ≡ gs
given_listed gs b e = ap (λ (x : BuyIn). take x.count x.given) e ∙ bought_given gs

-- all of it can be bought in
pub given_buys : (offers : Offers) (n : ℕ) (o : Obligation) → Sound o → Priced offers → Buys o (given n o.parts.outstanding (listed_offers offers))
given_buys offers n o s p = record {
  sound = s;
  enough = given_enough n (listed_offers offers) o;
  prices = given_keeps n o.parts.outstanding p.prices;
}

-- ---- the last day
compensated_none : (price n : ℕ) (o : Obligation) → (compensated price n o).obligation.parts.outstanding ≡ 0
unfolding compensated moving
compensated_none price n o =
    pick_case (λ (m : Made). m.obligation.parts.outstanding ≡ 0) (eqb o.parts.outstanding 0) _ _
    (λ e. eqb-true o.parts.outstanding 0 e)
    (λ e. omega arith)

-- after a Close at the age of the last day nothing of the obligation is outstanding
pub last_none : (d : DayEnd) (offers : List Offer) (n : ℕ) (o : Obligation) → is_due d.today o ≡ true →
    age_by d.setup d.today o ≡ last_of d.setup.terms o → (closed_one d offers n o).obligation.parts.outstanding ≡ 0
unfolding closed_one compensated_at measures_at
last_none d offers n o t e =
    let age = age_by d.setup d.today o in
    rw (t, stages_obligation d age offers n o, eq-eqb age (last_of d.setup.terms o) e)
    (compensated_none d.price n (bought d age offers n o).obligation)

-- an obligation that is due goes through its stages
pub due_stages : (d : DayEnd) (offers : List Offer) (n : ℕ) (o : Obligation) → is_due d.today o ≡ true →
    closed_one d offers n o ≡ stages d (age_by d.setup d.today o) offers n o
unfolding closed_one
due_stages d offers n o e = rw e

-- an obligation that is not due stays as it is
pub not_due_same : (d : DayEnd) (offers : List Offer) (n : ℕ) (o : Obligation) → is_due d.today o ≡ false → closed_one d offers n o ≡ nothing o
unfolding closed_one
not_due_same d offers n o e = rw e
