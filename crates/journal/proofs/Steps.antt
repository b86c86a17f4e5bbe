-- What a call moves that neither ends the day nor is a Month, by what it does to the rows, and the rows of such calls.
use Rattle.std.specs.Prelude.{Option, None}
use Prim.Native.Nat.{ℕ, ◌+◌, ◌<◌}
use native.Mathlib.Omega.{arith}
use mathlib.Core.Path.{◌≡◌, refl, sym, ap, ◌∙◌}
use mathlib.Core.Bool.{Bool, true, false, ◌&&◌, ◌||◌, false≢true}
use mathlib.Core.List.{List, []}
use lib.Dec.{eqb}
use lib.IntN.{ℤ, pos, ◌+ℤ◌, +ℤ_idr}
use lib.ListN.{get_or}
use borrow.Author.Tests.{eqb-true, eq-eqb, ne_eqb}
use Rattle.basics.specs.Choice.{pick}
use Rattle.basics.specs.Lists.{total}
use Rattle.basics.proofs.Cases.{pick_case, and_no}
use Rattle.ledger.specs.declared.Part.{Part}
use Rattle.ledger.specs.declared.Part.TheVariants.{Cancelled}
use Rattle.ledger.specs.declared.Parts.{Parts}
use Rattle.ledger.specs.declared.Sides.{Sides}
use Rattle.ledger.specs.declared.Stage.{Stage}
use Rattle.ledger.specs.declared.Obligation.{Obligation}
use Rattle.ledger.specs.Parts.{part_of, same_part, moved}
use Rattle.ledger.specs.Obligations.{with_wishes, is_party, with_wish, both_wish, moving, wishing, moved_by_wish}
use Rattle.ledger.specs.Ledger.{obligation_at, with_obligation}
use Rattle.ledger.proofs.Moving.{part_moved}
use Rattle.ledger.proofs.Keeping.{moving_later, wishing_later}
use Rattle.offers.specs.declared.Offer.{Offer}
use Rattle.book.specs.declared.Book.{Book}
use Rattle.book.specs.Book.{with_ledger, Valid}
use Rattle.journal.specs.Facts.{LegChange, instructs, Facts, moves_one, only_moves}
use Rattle.journal.specs.Sums.{penalties_of}
use Rattle.journal.proofs.Rows.{wish_of, Shift, shift_none, Untold, Rows, rows_one}
use Rattle.journal.proofs.Moves.{held_sides, Moves}

-- nothing is added to an account by no lines
no_lines : (m : ℕ) (sides_at : ℕ → Option Sides) (z : ℤ) → z ≡ z +ℤ penalties_of m sides_at []
unfolding penalties_of
no_lines m sides_at z = sym (+ℤ_idr z)

-- what moves by what is done to the rows, where the accounts stay
pub moves_within : (b after : Book) (f : Facts) → f.ends ≡ None → f.collects ≡ None → Valid after → after.setup ≡ b.setup →
    after.day.today ≡ b.day.today → after.ledger.accounts ≡ b.ledger.accounts → Rows b after f → Moves b after f
moves_within b after f e c v setup today accounts rows = record {
  valid = v;
  setup = setup;
  today = rw e today;
  rows = rows;
  accounts = λ m. rw (e, c) (ap (λ (xs : List ℤ). get_or xs m (pos 0)) accounts ∙ no_lines m (held_sides b) (get_or b.ledger.accounts m (pos 0)));
  last = λ t. absurd (turns (rw e at t));
}
  where
    turns : false ≡ true → ⊥
    turns z = false≢true z

-- ---- other legs and offers
-- the facts of a call that changes legs or offers, or neither
abbrev pub plain : LegChange → List Offer → Facts
plain c xs = record { legs = c; moves = λ k n. 0; wishes = λ n m. false; offers = xs; rates = []; ends = None; collects = None }

pub plain_untold : (c : LegChange) (xs : List Offer) (n : ℕ) → instructs n c ≡ None → Untold (plain c xs) n
unfolding total
plain_untold c xs n e = record { instructed = e; moves = λ k. refl; wishes = λ m. refl }

-- ---- one obligation changed
-- a quantity that moves to a part
shift_moved : (j : Part) (n q : ℕ) (p : Parts) → Shift p (moved j q p) (λ k. moves_one j n q k n)
shift_moved j n q p k = part_moved k j q p ∙ rw (eq-eqb n n refl) (by (same_part k j) (part_of k p))
  where
    by : (t : Bool) (x : ℕ) → pick t (x + q) x ≡ pick (t && true) q 0 + x
    by true x = omega arith
    by false x = omega arith

-- what moves to a part of one obligation is of that obligation alone, and so is the wish
pub moved_untold : (j : Part) (n q : ℕ) (w : ℕ → ℕ → Bool) (k : ℕ) → (k ≡ n → ⊥) → ((m : ℕ) → w k m ≡ false) → Untold (only_moves (moves_one j n q) w) k
unfolding total
moved_untold j n q w k z quiet = record {
  instructed = refl;
  moves = λ i. rw (ne_eqb k n z, and_no (same_part i j)) refl;
  wishes = quiet;
}

-- a quantity moves to a part of one obligation
pub rows_moved : (b : Book) → Valid b → (j : Part) (n q : ℕ) → n < b.ledger.count →
    Rows b (with_ledger (with_obligation n (moving j q (obligation_at b.ledger n)) b.ledger) b) (only_moves (moves_one j n q) (λ k m. false))
unfolding moving total
rows_moved b v j n q h =
    let o = obligation_at b.ledger n in
    rows_one b v _ n _ refl h (record {
      later = moving_later j o q;
      instructed = refl;
      shift = λ k. shift_moved j n q o.parts k ∙ omega arith;
      price = λ left. refl;
      wish = λ m. refl;
    }) (λ k z. moved_untold j n q (λ i m. false) k z (λ m. refl))

-- ---- a wish
-- a party's wish is recorded, and no other
wish_recorded : (o : Obligation) (member : ℕ) → is_party o member ≡ true → (o.deal.seller ≡ o.deal.buyer → ⊥) → (m : ℕ) → wish_of m (with_wish member o) ≡ (eqb member m || wish_of m o)
unfolding is_party with_wish
wish_recorded o member party apart m = by (eqb o.deal.seller member) refl party
  where
    by : (t : Bool) → eqb o.deal.seller member ≡ t → (t || eqb o.deal.buyer member) ≡ true →
        wish_of m (pick t (with_wishes (record { seller = true; buyer = o.wishes.buyer }) o) (with_wishes (record { seller = o.wishes.seller; buyer = true }) o)) ≡ (eqb member m || wish_of m o)
    by true e q = rw (← eqb-true o.deal.seller member e) (seller (eqb o.deal.seller m))
      where
        seller : (u : Bool) → pick u true (pick (eqb o.deal.buyer m) o.wishes.buyer false) ≡ (u || pick u o.wishes.seller (pick (eqb o.deal.buyer m) o.wishes.buyer false))
        seller true = refl
        seller false = refl
    by false e q = rw (← eqb-true o.deal.buyer member q) (buyer (eqb o.deal.seller m) (eqb o.deal.buyer m) refl refl)
      where
        buyer : (u w : Bool) → eqb o.deal.seller m ≡ u → eqb o.deal.buyer m ≡ w →
            pick u o.wishes.seller (pick w true false) ≡ (w || pick u o.wishes.seller (pick w o.wishes.buyer false))
        buyer true true x y = absurd (apart (eqb-true o.deal.seller m x ∙ sym (eqb-true o.deal.buyer m y)))
        buyer true false x y = refl
        buyer false true x y = refl
        buyer false false x y = refl

-- a wish changes neither the parts nor the stage
record Recorded (o r : Obligation) : Type 0 where
  parts : r.parts ≡ o.parts
  stage : r.stage ≡ o.stage

recorded : (o : Obligation) (member : ℕ) → Recorded o (with_wish member o)
unfolding with_wish
recorded o member = pick_case (Recorded o) (eqb o.deal.seller member) _ _ (λ e. record { parts = refl; stage = refl }) (λ e. record { parts = refl; stage = refl })

-- what the second wish cancels is no wish, and it leaves the stage
cancelled_same : (o : Obligation) (member : ℕ) → ((m : ℕ) → wish_of m (wishing member o) ≡ wish_of m (with_wish member o)) × ((wishing member o).stage ≡ o.stage)
unfolding wishing moving
cancelled_same o member =
    pick_case (λ (r : Obligation). ((m : ℕ) → wish_of m r ≡ wish_of m (with_wish member o)) × (r.stage ≡ o.stage)) (both_wish (with_wish member o)) _ _
    (λ e. (λ m. refl, (recorded o member).stage))
    (λ e. (λ m. refl, (recorded o member).stage))

wish_shift : (o : Obligation) (n member : ℕ) → Shift o.parts (wishing member o).parts (λ k. moves_one Cancelled n (moved_by_wish member o) k n)
unfolding wishing moved_by_wish moving
wish_shift o n member = by (both_wish (with_wish member o)) (recorded o member).parts
  where
    nothing : (t : Bool) → ◌≡◌ {A = ℕ} (pick t 0 0) 0
    nothing true = refl
    nothing false = refl

    by : (t : Bool) → (with_wish member o).parts ≡ o.parts →
        Shift o.parts (pick t (moving Cancelled (with_wish member o).parts.outstanding (with_wish member o)) (with_wish member o)).parts (λ k. moves_one Cancelled n (pick t o.parts.outstanding 0) k n)
    by true e = rw e (shift_moved Cancelled n o.parts.outstanding o.parts)
    by false e = rw e (λ k. rw (nothing (same_part k Cancelled && eqb n n)) (shift_none o.parts k))

-- a party's wish, whether it cancels or not
pub rows_wished : (b : Book) → Valid b → (n member : ℕ) → n < b.ledger.count → is_party (obligation_at b.ledger n) member ≡ true →
    Rows b (with_ledger (with_obligation n (wishing member (obligation_at b.ledger n)) b.ledger) b)
    (only_moves (moves_one Cancelled n (moved_by_wish member (obligation_at b.ledger n))) (λ k m. eqb n k && eqb member m))
unfolding total
rows_wished b v n member h party =
    let o = obligation_at b.ledger n in
    let same = cancelled_same o member in
    rows_one b v _ n _ refl h (record {
      later = wishing_later o member;
      instructed = refl;
      shift = λ k. wish_shift o n member k ∙ omega arith;
      price = λ left. ap (λ (s : Stage). s.grace_price) same.1;
      wish = λ m. same.0 m ∙ rw (eq-eqb n n refl) (wish_recorded o member party (v.ledger.sound n h).deal.parties_apart m);
    }) (λ k z. moved_untold Cancelled n _ _ k z (λ m. rw (ne_eqb n k (λ y. z (sym y)))))
