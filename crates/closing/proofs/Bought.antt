-- Laws on what a buy-in leaves of an obligation, offer by offer.
use Prim.Native.Nat.{ℕ, zero, suc, ◌+◌, ◌*◌, ◌≤◌, ◌<◌}
use native.Mathlib.Omega.{arith}
use native.Mathlib.Numerals.{add-one}
use mathlib.Core.Path.{◌≡◌, refl, sym, ap, ◌∙◌}
use mathlib.Core.List.{List, [], ◌∷◌, ◌++◌}
use lib.ListN.{length, get_or, take}
use lib.Seq.{take-suc, take_all, length-take-le}
use Rattle.basics.specs.Lists.{total}
use Rattle.basics.proofs.Everywhere.{every_at}
use Rattle.amounts.specs.Amounts.{most_offer_price}
use Rattle.offers.specs.declared.Given.{Given}
use Rattle.offers.specs.BuyIn.{units, nothing_given}
use Rattle.ledger.specs.declared.Part.TheVariants.{BoughtIn}
use Rattle.ledger.specs.declared.Obligation.{Obligation}
use Rattle.ledger.specs.Obligations.{moving, Sound, Takes}
use Rattle.ledger.proofs.Keeping.{moving_none, moving_more, moving_sound}
use Rattle.ledger.specs.Lines.{words_in_line}
use Rattle.closing.specs.declared.Closing.{Closing}
use Rattle.closing.specs.Lines.{Made, then, Room, Wrote}
use Rattle.closing.specs.Stages.{bought_from, bought_all}
use Rattle.closing.specs.Asked.{Buys}
use Rattle.closing.proofs.Lines.{wrote_length}

-- all that the offers give is bought in
pub bought_obligation : (n : ℕ) (gs : List Given) (o : Obligation) → (bought_all n gs o).obligation ≡ moving BoughtIn (units gs) o
unfolding bought_all bought_from then total
bought_obligation n [] o = sym (moving_none BoughtIn o)
bought_obligation n (g ∷ gs) o = bought_obligation n gs (moving BoughtIn g.quantity o) ∙ moving_more BoughtIn o g.quantity (units gs)

-- there is one line for each offer that gives
pub bought_length : (n : ℕ) (gs : List Given) (o : Obligation) → length (bought_all n gs o).lines ≡ length gs
unfolding bought_all bought_from then
bought_length n [] o = refl
bought_length n (g ∷ gs) o = ap suc (bought_length n gs (moving BoughtIn g.quantity o))

-- the last offer is bought from after all the others
bought_last : (n : ℕ) (gs : List Given) (g : Given) (o : Obligation) → bought_all n (gs ++ g ∷ []) o ≡ then (bought_all n gs o) (bought_from n g)
unfolding bought_all bought_from then
bought_last n [] g o = refl
bought_last n (x ∷ gs) g o =
    ap (λ (m : Made). then (bought_from n x o) (λ p. m)) (bought_last n gs g (moving BoughtIn x.quantity o))

pub bought_next : (n : ℕ) (gs : List Given) (k : ℕ) (o : Obligation) (z : Given) → k < length gs →
    bought_all n (take (k + 1) gs) o ≡ then (bought_all n (take k gs) o) (bought_from n (get_or gs k z))
bought_next n gs k o z h =
    ap (λ (l : List Given). bought_all n l o) (ap (λ (j : ℕ). take j gs) (add-one k) ∙ take-suc gs k z h)
    ∙ bought_last n (take k gs) (get_or gs k z) o

-- what the next offer gives is still outstanding
units_next : (gs : List Given) (k : ℕ) (z : Given) → k < length gs → units (take k gs) + (get_or gs k z).quantity ≤ units gs
unfolding total
units_next [] k z h = absurd (omega arith)
units_next (g ∷ gs) zero z h = omega arith
units_next (g ∷ gs) (suc k) z h = omega (arith, units_next gs k z (omega arith))

pub bought_takes : (n : ℕ) (gs : List Given) (k : ℕ) (o : Obligation) (z : Given) → k < length gs → Sound o → units gs ≤ o.parts.outstanding →
    Takes (bought_all n (take k gs) o).obligation (get_or gs k z).quantity
unfolding moving
bought_takes n gs k o z h s e =
    let u = units_next gs k z h in
    rw (bought_obligation n (take k gs) o) (record {
      sound = moving_sound BoughtIn o (units (take k gs)) (record { sound = s; enough = omega arith });
      enough = omega arith;
    })

-- ---- a buy-in in its course: the first k offers have given
module _ (n : ℕ) (o : Obligation) (gs : List Given) (h : Buys o gs) where
  -- the requirement of the next offer holds
  pub next_takes : (k : ℕ) (r : Obligation) → k < length gs → r ≡ (bought_all n (take k gs) o).obligation →
      (Takes r (get_or gs k nothing_given).quantity) × ((get_or gs k nothing_given).offer.price ≤ most_offer_price)
  next_takes k r l e = rw e (bought_takes n gs k o nothing_given l h.sound h.enough, every_at h.prices k nothing_given l)

  pub next_room : (k : ℕ) (s r : Closing) (ws ws' : List ℕ) → k < length gs → Room s.count ws (bought_all n gs o) →
      Wrote s ws r ws' (bought_all n (take k gs) o) → words_in_line * (r.count + 1) ≤ length ws'
  next_room k s r ws ws' l room w =
      omega (
        arith,
        room,
        w.counted,
        wrote_length s r ws ws' (bought_all n (take k gs) o) w,
        bought_length n gs o,
        bought_length n (take k gs) o,
        length-take-le k gs (omega arith),
      )

  pub so_far_all : bought_all n (take (length gs) gs) o ≡ bought_all n gs o
  so_far_all = ap (λ (l : List Given). bought_all n l o) (take_all (length gs) gs (omega arith))
