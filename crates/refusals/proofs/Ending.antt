-- The refusals of Close and of Again.
use Rattle.std.specs.Prelude.{Option, Some, None}
use Prim.Native.Nat.{ℕ, ◌≤◌, ◌<◌}
use mathlib.Core.Path.{◌≡◌, refl, ap, ◌∙◌}
use mathlib.Core.Bool.{Bool, true, false, not}
use mathlib.Core.List.{[]}
use lib.Dec.{ltb}
use borrow.Author.Tests.{ltb-false, lt-ltb, le-ltb, not-false}
use Rattle.basics.specs.Lists.{Every}
use Rattle.basics.specs.Refusals.{answer, outside}
use Rattle.basics.proofs.Cases.{or_false}
use Rattle.basics.proofs.Refusals.{pass, stop, passed, all_passed, refused_ahead, passed_ahead, ahead_passed, is_printed}
use Rattle.calendar.specs.declared.Day.{Day}
use Rattle.amounts.specs.Amounts.{most_close_price}
use Rattle.rates.specs.declared.RateRow.{RateRow}
use Rattle.rates.specs.Force.{is_unset}
use Rattle.ledger.specs.Lines.{fewest_words}
use Rattle.refusals.specs.Calls.{close_refusals_in, is_never, close_refusals, again_refusals}

module _ (price words : ℕ) where
  -- none of those from the input has the number 0
  pub close_some : Every (λ r. 0 < r.number) (close_refusals_in price words)
  unfolding close_refusals_in
  close_some = (is_printed (close_refusals_in price words) refl).some

  -- what a Close that passes them was given
  pub record Given : Type 0 where
    pub price_some : 1 ≤ price
    pub price_most : price ≤ most_close_price
    pub long : fewest_words ≤ words

  pub close_given : answer (close_refusals_in price words) ≡ 0 → Given
  unfolding close_refusals_in
  close_given e =
      let p3 = passed 3 (outside 1 most_close_price price) _ e refl in
      let p5 = passed 5 (ltb words fewest_words) _ p3.1 refl in
      let bad = or_false {a = ltb price 1} p3.0 in
      record {
        price_some = ltb-false price 1 bad.0;
        price_most = ltb-false most_close_price price bad.1;
        long = ltb-false words fewest_words p5.0;
      }

  module _ (next : Option Day) (force : Option RateRow) where
    -- refused by the input, whatever the next clearing day and the rate in force are
    pub close_refused : (k : ℕ) → answer (close_refusals_in price words) ≡ k → (k ≡ 0 → ⊥) → answer (close_refusals price words next force) ≡ k
    unfolding close_refusals
    close_refused k e z = refused_ahead (close_refusals_in price words) _ k e z

    -- A Close that passes them is refused by 20 if there is no next clearing day. If there is one, it is refused by 26 if
    -- no rate is in force, and done if one is.
    pub close_never : next ≡ None → answer (close_refusals_in price words) ≡ 0 → answer (close_refusals price words next force) ≡ 20
    unfolding close_refusals
    close_never q e = passed_ahead (close_refusals_in price words) _ close_some e ∙ stop 20 _ (ap is_never q)

    pub close_unset : (d : Day) → next ≡ Some d → force ≡ None → answer (close_refusals_in price words) ≡ 0 → answer (close_refusals price words next force) ≡ 26
    unfolding close_refusals
    close_unset d q f e = passed_ahead (close_refusals_in price words) _ close_some e ∙ pass 20 _ (ap is_never q) ∙ stop 26 [] (ap is_unset f)

    pub close_at : (d : Day) → next ≡ Some d → is_unset force ≡ false → answer (close_refusals_in price words) ≡ 0 → answer (close_refusals price words next force) ≡ 0
    unfolding close_refusals
    close_at d q f e = passed_ahead (close_refusals_in price words) _ close_some e ∙ pass 20 _ (ap is_never q) ∙ pass 26 [] f ∙ all_passed

    -- a Close that is done passed the refusals from its input, there is a next clearing day, and a rate is in force
    pub record Passed : Type 0 where
      pub input : answer (close_refusals_in price words) ≡ 0
      pub next_day : is_never next ≡ false
      pub rate : is_unset force ≡ false

    pub close_passed : answer (close_refusals price words next force) ≡ 0 → Passed
    unfolding close_refusals
    close_passed e =
        let p = ahead_passed (close_refusals_in price words) _ close_some e in
        let p20 = passed 20 (is_never next) _ p.1 refl in
        record { input = p.0; next_day = p20.0; rate = (passed 26 (is_unset force) [] p20.1 refl).0 }

-- ---- Again
module _ (closed : Bool) (words : ℕ) where
  -- an Again that is done is lent a list that is long enough, after a Close
  pub again_given : answer (again_refusals closed words) ≡ 0 → (fewest_words ≤ words) × (closed ≡ true)
  unfolding again_refusals
  again_given e =
      let p5 = passed 5 (ltb words fewest_words) _ e refl in
      let p22 = passed 22 (not closed) [] p5.1 refl in
      (ltb-false words fewest_words p5.0, not-false closed p22.0)

  -- a short list is refused by 5, whether there was a Close or not
  pub again_short : words < fewest_words → answer (again_refusals closed words) ≡ 5
  unfolding again_refusals
  again_short h = stop 5 _ (lt-ltb words fewest_words h)

  -- with a list that is long enough, an Again is refused by 22 before the first Close, and done after it
  pub again_before : fewest_words ≤ words → closed ≡ false → answer (again_refusals closed words) ≡ 22
  unfolding again_refusals
  again_before h e = pass 5 _ (le-ltb words fewest_words h) ∙ stop 22 [] (ap not e)

  pub again_after : fewest_words ≤ words → closed ≡ true → answer (again_refusals closed words) ≡ 0
  unfolding again_refusals
  again_after h e = pass 5 _ (le-ltb words fewest_words h) ∙ pass 22 [] (ap not e) ∙ all_passed
