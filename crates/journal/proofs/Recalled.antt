-- What every book remembers of its journal: `remembered`. Since it remembers its rates, refusal 26 of Close does not
-- come again after an accepted Close: `no_26_again` at the end.
use Rattle.std.specs.Prelude.{None, Some}
use Prim.Native.Nat.{ℕ, ◌≤◌, ◌<◌}
use native.Mathlib.Omega.{arith}
use mathlib.Core.Path.{◌≡◌, refl, sym, ap, ◌∙◌}
use mathlib.Core.Bool.{true, false}
use mathlib.Core.List.{List}
use lib.Dec.{ltb}
use lib.ListN.{length, get_or, get_or-eq_default}
use borrow.Author.Tests.{lt-ltb, le-ltb, eq-eqb, ne_eqb}
use Rattle.offers.specs.Rank.{ranked, InOrder}
use Rattle.offers.specs.Held.{listed_offers}
use Rattle.offers.proofs.Ranking.{ranked_in_order}
use Rattle.rates.specs.Rows.{entered_rows, listed_rates}
use Rattle.instructions.specs.declared.Leg.{Leg}
use Rattle.instructions.specs.declared.LegState.TheVariants.{Waiting}
use Rattle.instructions.specs.Legs.{is_waiting, no_leg, in_state, leg_at, entered}
use Rattle.ledger.specs.declared.Part.{Part}
use Rattle.ledger.specs.Parts.{part_of}
use Rattle.ledger.specs.Ledger.{obligation_at}
use Rattle.reprint.specs.Kept.{kept_from}
use Rattle.book.specs.Book.{age_of}
use Rattle.book.specs.Close.{force_of, close}
use Rattle.journal.specs.Calls.{Run}
use Rattle.journal.specs.Sums.{setup_in, today_in, instructed_in, part_in, wished_in, grace_price_in}
use Rattle.journal.specs.History.{close_since_in, latest_close, was_close, latest_lines, offers_in, rates_in, force_in, legs_in, amount_in, leg_in, waiting_in}
use Rattle.journal.specs.Promise.{EveryCapPrice}
use Rattle.journal.proofs.Moves.{Agrees, parts_are}
use Rattle.journal.proofs.Rows.{instructed_at}
use Rattle.journal.proofs.CapPrices.{known_capped}
use Rattle.journal.proofs.Model.{Known}
use Rattle.journal.proofs.Demand3.{Ran}
use Rattle.journal.proofs.Theorem.{known}
use Rattle.journal.proofs.Every.{entered_length, entered_at}
use Rattle.journal.proofs.Recalling.{RunRecalls, known_recalls}
use Rattle.journal.proofs.Fining.{force_is, never_again_unset}

-- Each thing that a book stores is what its Open and its events tell. The accounts and what is outstanding are those of
-- the promise.
pub record Remembered (s : Run) : Type 0 where
  -- O5 and O6, Open: the closed days and the terms
  pub setup : s.book.setup ≡ setup_in s.opening
  -- C17, Close: today
  pub today : s.book.day.today ≡ today_in s.opening s.past
  -- R21, Refusals: whether a Close was accepted since Open or since the last accepted Month
  pub close_since : s.book.day.close_since ≡ close_since_in s.past
  -- R22, Refusals, and N2, Again: whether a Close was accepted since Open, and the lines of the latest one
  pub has_closed : s.book.day.has_closed ≡ was_close (latest_close s.past)
  pub last : s.book.last ≡ kept_from (latest_lines (latest_close s.past))
  -- J4, Whole journals, and E8, Enter: what each obligation was instructed to be, and its amount; there are no others
  pub deal : (n : ℕ) → n < s.book.ledger.count → instructed_in n s.past ≡ Some (instructed_at (obligation_at s.book.ledger n))
  pub amount : (n : ℕ) → n < s.book.ledger.count → amount_in n s.past ≡ Some (obligation_at s.book.ledger n).deal.amount
  pub no_deal : (n : ℕ) → s.book.ledger.count ≤ n → instructed_in n s.past ≡ None
  -- J6 to J9, Whole journals: what became of its quantity
  pub part : (n : ℕ) → n < s.book.ledger.count → (k : Part) → part_of k (obligation_at s.book.ledger n).parts ≡ part_in k n s.past
  -- B9, Buy-in: the price of the Close at age = grace, where something is outstanding
  pub grace_price : (n : ℕ) → n < s.book.ledger.count → 0 < (obligation_at s.book.ledger n).parts.outstanding →
      (obligation_at s.book.ledger n).stage.grace_price ≡ grace_price_in s.opening n s.past
  -- B9, Buy-in: where the age is above grace as well, this price is there: it is at least 1
  pub cap_price : (n : ℕ) → n < s.book.ledger.count → 0 < (obligation_at s.book.ledger n).parts.outstanding →
      s.book.setup.terms.grace.0 < age_of s.book (obligation_at s.book.ledger n) → 1 ≤ (obligation_at s.book.ledger n).stage.grace_price
  -- B5 and C7, Buy-in and Close: the offers of today, in the order in which they are taken
  pub offers : listed_offers s.book.ledger.offers ≡ ranked (offers_in s.past)
  pub in_order : InOrder (offers_in s.past) (listed_offers s.book.ledger.offers)
  -- F3 and F4, Rates: the rows of rates, and J18, Whole journals: the row in force
  pub rates : listed_rates s.book.rates ≡ entered_rows (rates_in s.past)
  pub force : force_of s.book ≡ force_in s.opening s.past
  -- K1 and K4, Cancel: the wishes of the seller and of the buyer
  pub seller_wish : (n : ℕ) → n < s.book.ledger.count →
      (obligation_at s.book.ledger n).wishes.seller ≡ wished_in n (obligation_at s.book.ledger n).deal.seller s.past
  pub buyer_wish : (n : ℕ) → n < s.book.ledger.count →
      (obligation_at s.book.ledger n).wishes.buyer ≡ wished_in n (obligation_at s.book.ledger n).deal.buyer s.past
  -- E2, E3 and T1, Enter and Withdraw: the legs, what each was instructed to be, and whether it waits
  pub legs : entered s.book.legs ≡ legs_in s.past
  pub leg : (n : ℕ) → n < s.book.legs.count → leg_in n s.past ≡ Some (in_state Waiting (leg_at s.book.legs n))
  pub no_leg : (n : ℕ) → s.book.legs.count ≤ n → (leg_in n s.past ≡ None) × (waiting_in n s.past ≡ false)
  pub waiting : (n : ℕ) → n < s.book.legs.count → is_waiting (leg_at s.book.legs n).state ≡ waiting_in n s.past

-- what is recalled, said of each thing by itself
told : (s : Run) → Agrees s.opening s.book s.past → RunRecalls s → EveryCapPrice s.opening s.past → Remembered s
unfolding age_of
told s g k p =
    let l = s.book.ledger in
    let v = g.valid in
    let there : (n : ℕ) → n < l.count → ltb n l.count ≡ true = λ n h. lt-ltb n l.count h in
    let size : length (legs_in s.past) ≡ s.book.legs.count = ap length (sym k.legs) ∙ entered_length s.book v in
    let row : (n : ℕ) → n < s.book.legs.count → get_or (legs_in s.past) n no_leg ≡ leg_at s.book.legs n =
    λ n h. ap (λ (ls : List Leg). get_or ls n no_leg) (sym k.legs) ∙ entered_at s.book v n h in
    record {
      setup = g.setup;
      today = g.today;
      deal = λ n h. rw (← g.instructed n, there n h);
      amount = λ n h. rw (← k.amounts n, there n h);
      no_deal = λ n h. rw (← g.instructed n, le-ltb n l.count h);
      part = λ n h j. sym (parts_are s.opening s.book s.past g n h j);
      close_since = k.close_since;
      has_closed = k.has_closed;
      last = k.last;
      grace_price = λ n h left. rw (there n h) at (g.prices n (λ z. left));
      cap_price = λ n h left old.
          let price = rw (there n h) at (g.prices n (λ z. left)) in
          let instructed : instructed_in n s.past ≡ Some (instructed_at (obligation_at l n)) = rw (← g.instructed n, there n h) in
          omega (arith, price, (p n (instructed_at (obligation_at l n)) instructed (rw (g.setup, g.today) at old)).price);
      offers = k.offers;
      rates = k.rates;
      force = force_is s.opening s.book s.past g k;
      in_order = rw k.offers (ranked_in_order (offers_in s.past));
      seller_wish = λ n h. rw (there n h, eq-eqb (obligation_at l n).deal.seller (obligation_at l n).deal.seller refl) at (g.wishes n (obligation_at l n).deal.seller);
      buyer_wish = λ n h.
          rw (there n h, ne_eqb (obligation_at l n).deal.seller (obligation_at l n).deal.buyer (v.ledger.sound n h).deal.parties_apart, eq-eqb (obligation_at l n).deal.buyer (obligation_at l n).deal.buyer refl)
          at (g.wishes n (obligation_at l n).deal.buyer);
      legs = k.legs;
      leg = λ n h. sym (k.leg n) ∙ rw (row n h, size, lt-ltb n s.book.legs.count h);
      no_leg = λ n h. (
        sym (k.leg n) ∙ rw (size, le-ltb n s.book.legs.count h),
        sym (k.waits n) ∙ rw (get_or-eq_default (legs_in s.past) no_leg {n = n} (omega (arith, size))),
      );
      waiting = λ n h. ap (λ (x : Leg). is_waiting x.state) (sym (row n h)) ∙ k.waits n;
    }

-- of every run that is known, and so of every run of the functions
pub known_remembered : (s : Run) → Known s → Remembered s
known_remembered s k = told s k.agrees (known_recalls s k) (known_capped s k)

pub remembered : (s : Run) → Ran s → Remembered s
remembered s ran = known_remembered s (known ran)

-- F8, Rates: once a Close of a run was accepted, no Close after it is refused by 26
pub no_26_again : (s : Run) → Ran s → was_close (latest_close s.past) ≡ true → (price words : ℕ) → (close s.book price words).answer ≡ 26 → ⊥
no_26_again s ran = never_again_unset s (known ran)
