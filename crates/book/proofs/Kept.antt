-- Every call keeps a valid book valid.
use Prim.Native.Nat.{ℕ, ◌+◌, ◌*◌, ◌≤◌, ◌<◌}
use Rattle.std.specs.Prelude.{Some, None}
use native.Mathlib.Omega.{arith}
use mathlib.Core.Path.{◌≡◌, refl, sym, ap, ◌∙◌}
use mathlib.Core.Bool.{Bool, true, false}
use lib.Dec.{eqb}
use borrow.Author.Tests.{ltb-false, leb-false, eqb-false, not-false}
use Rattle.ledger.proofs.Valid.{valid_changed, valid_more, valid_offer}
use Rattle.basics.specs.Choice.{pick}
use Rattle.basics.specs.Refusals.{answer}
use Rattle.basics.proofs.Cases.{pick_case, or_false}
use Rattle.basics.proofs.Places.{set_case}
use Rattle.basics.proofs.Refusals.{passed, outcome_case}
use Rattle.calendar.specs.declared.Day.{Day}
use Rattle.calendar.specs.Days.{clearing, age_at}
use Rattle.calendar.proofs.Ages.{age_early}
use Rattle.amounts.specs.Amounts.{most_quantity, most_amount}
use Rattle.instructions.specs.declared.LegState.TheVariants.{Withdrawn, Matched}
use Rattle.instructions.specs.declared.Leg.{Leg}
use Rattle.instructions.specs.declared.Legs.{Legs}
use Rattle.instructions.specs.Legs.{is_waiting, in_state, leg_at, with_state, with_leg, waiting_one, waiting, SoundLeg, ValidLegs}
use Rattle.instructions.specs.Match.{Fit, fits, lowest_fit}
use Rattle.instructions.proofs.Keeping.{waiting_with, valid_with, leg_sound, waiting_state, valid_state}
use Rattle.instructions.proofs.Matching.{found_below, fits_all}
use Rattle.ledger.specs.declared.Part.TheVariants.{Delivered}
use Rattle.ledger.specs.declared.Deal.{Deal}
use Rattle.ledger.specs.declared.Obligation.{Obligation}
use Rattle.ledger.specs.declared.Ledger.{Ledger}
use Rattle.ledger.specs.Obligations.{no_obligation, wishing, SoundDeal, Sound, moving}
use Rattle.ledger.specs.Ledger.{obligation_at, with_obligation, with_new, ValidLedger}
use Rattle.ledger.proofs.Keeping.{new_sound, moving_sound, wishing_sound, Later, moving_later, wishing_later}
use Rattle.rates.specs.Rows.{row_of}
use Rattle.rates.proofs.Keeping.{with_valid}
use Rattle.book.specs.declared.Book.{Book}
use Rattle.book.specs.Book.{with_legs, with_ledger, closed_of, today_of, age_of, Timely, Valid}
use Rattle.book.specs.Instructing.{new_leg, obligation_of, entered_alone, entered_with, entered_by, enter_refused, enter, withdraw, cancel, deliver}
use Rattle.refusals.specs.Calls.{enter_refusals, deliver_refusals_of}
use Rattle.book.specs.Buying.{offer}
use Rattle.book.specs.Rating.{rated}
use Rattle.refusals.proofs.Offering.{within, offered, offers_few}
use Rattle.book.proofs.Outcomes.{withdraw_case, cancel_case, deliver_case, offer_case, rate_case}

-- ---- parts of a book that change
module _ (b : Book) (v : Valid b) where
  -- other legs and another ledger, with the same accounts
  with_parts_valid : (legs : Legs) (l : Ledger) → ValidLegs legs → ValidLedger l → 2 * l.count + waiting legs ≤ legs.count → l.accounts ≡ b.ledger.accounts →
      ((n : ℕ) → n < l.count → Timely b (obligation_at l n)) → Valid (with_legs legs (with_ledger l b))
  unfolding age_of
  with_parts_valid legs l g k r a t = record {
    setup = v.setup;
    day = v.day;
    legs = g;
    ledger = k;
    last = v.last;
    rates = v.rates;
    room = r;
    timely = λ n h. record { clears = (t n h).clears; young = (t n h).young };
    accounts_near = λ m. rw a (v.accounts_near m);
  }

  with_legs_valid : (legs : Legs) → ValidLegs legs → 2 * b.ledger.count + waiting legs ≤ legs.count → Valid (with_legs legs b)
  with_legs_valid legs g r = with_parts_valid legs b.ledger g v.ledger r refl v.timely

  with_ledger_valid : (l : Ledger) → ValidLedger l → 2 * l.count + waiting b.legs ≤ b.legs.count → l.accounts ≡ b.ledger.accounts →
      ((n : ℕ) → n < l.count → Timely b (obligation_at l n)) → Valid (with_ledger l b)
  with_ledger_valid l k r a t = with_parts_valid b.legs l v.legs k r a t

  -- an obligation at a later time is timely too
  later_timely : (o r : Obligation) → Later o r → Timely b o → Timely b r
  unfolding age_of
  later_timely o r g t =
      let same = ap (λ (d : Deal). (age_at (closed_of b) d.day (today_of b)).0) g.deal in
      record { clears = rw g.deal t.clears; young = λ q. omega (arith, same, g.last b.setup.terms, t.young (omega (arith, g.less))) }

  -- an obligation changed to what it is at a later time
  changed_valid : (n : ℕ) (o : Obligation) → n < b.ledger.count → Sound o → Later (obligation_at b.ledger n) o →
      Valid (with_ledger (with_obligation n o b.ledger) b)
  changed_valid n o h s g =
      with_ledger_valid (with_obligation n o b.ledger) (valid_changed b.ledger v.ledger n o h s) v.room refl
      (λ k q. set_case (Timely b) b.ledger.obligations n k o no_obligation (omega (arith, v.ledger.size, v.ledger.few)) (λ e. later_timely _ o g (v.timely n h)) (λ e. v.timely k q))

  -- ---- Withdraw
  pub withdraw_valid : (n member : ℕ) → Valid (withdraw b n member).book
  withdraw_valid n member =
      withdraw_case b (λ r. Valid r.book) n member (λ k z. v) (λ h.
      let w = waiting_state b.legs v.legs n h Withdrawn in
      with_legs_valid _ (valid_state b.legs v.legs n h Withdrawn) (omega (arith, v.room)))

  -- ---- Cancel
  pub cancel_valid : (n member : ℕ) → Valid (cancel b n member).book
  cancel_valid n member =
      cancel_case b (λ r. Valid r.book) n member (λ k z. v) (λ h e.
      let o = obligation_at b.ledger n in
      changed_valid n (wishing member o) h (wishing_sound o member (v.ledger.sound n h)) (wishing_later o member))

  -- ---- Deliver
  pub deliver_valid : (n q : ℕ) → Valid (deliver b n q).book
  unfolding deliver_refusals_of
  deliver_valid n q =
      deliver_case b (λ r. Valid r.book) n q (λ k z. v) (λ h e.
      let o = obligation_at b.ledger n in
      let t = ltb-false o.parts.outstanding q (passed 15 _ _ e refl).0 in
      changed_valid n (moving Delivered q o) h (moving_sound Delivered o q (record { sound = v.ledger.sound n h; enough = t })) (moving_later Delivered o q))

  -- ---- Offer
  pub offer_valid : (n supplier q price : ℕ) → Valid (offer b n supplier q price).book
  offer_valid n supplier q price =
      offer_case b (λ r. Valid r.book) n supplier q price (λ k z. v) (λ h e f.
      let asked = offered supplier q price e in
      with_ledger_valid _ (valid_offer b.ledger v.ledger _ (offers_few _ _ _ _ _ _ f) (record {
        there = h;
        supplier_most = asked.supplier_most;
        quantity_some = asked.quantity_within.0;
        quantity_most = asked.quantity_within.1;
        price_some = asked.price_within.0;
        price_most = asked.price_within.1;
      })) v.room refl v.timely)

  -- ---- Rate
  pub rate_valid : (start : Day) (rate : ℕ) → Valid (rated b start rate).book
  unfolding age_of
  rate_valid start rate =
      rate_case b (λ r. Valid r.book) start rate (λ k z. v) (λ g. record {
        setup = v.setup;
        day = v.day;
        legs = v.legs;
        ledger = v.ledger;
        last = v.last;
        rates = with_valid (today_of b) b.rates v.rates (row_of start rate) g.room g.rate_most;
        room = v.room;
        timely = λ n h. record { clears = (v.timely n h).clears; young = (v.timely n h).young };
        accounts_near = v.accounts_near;
      })

  -- ---- Enter
  -- what an instruction that is not refused is
  pub record Good (new : Leg) : Type 0 where
    pub member_below : new.member < 32
    pub other_below : new.other < 32
    pub apart : new.member ≡ new.other → ⊥
    pub side_most : new.side ≤ 1
    pub quantity_within : (1 ≤ new.quantity) × (new.quantity ≤ most_quantity)
    pub amount_within : (1 ≤ new.amount) × (new.amount ≤ most_amount)
    pub clears : clearing (closed_of b) new.day ≡ true
    pub from_today : (today_of b).0 ≤ new.day.0
    pub day_most : new.day.0 ≤ 60000
    pub room : b.legs.count < 128

  pub good : (new : Leg) → answer (enter_refusals b.setup.closed_days (today_of b) b.legs.count new) ≡ 0 → Good new
  unfolding enter_refusals
  good new e =
      let p1 = passed 1 _ _ e refl in
      let p2 = passed 2 _ _ p1.1 refl in
      let p3 = passed 3 _ _ p2.1 refl in
      let p11 = passed 11 _ _ p3.1 refl in
      let p12 = passed 12 _ _ p11.1 refl in
      let m = or_false p1.0 in
      let n = or_false m.1 in
      let o = or_false n.1 in
      let d = or_false p11.0 in
      let f = or_false d.1 in
      record {
        member_below = omega (arith, ltb-false 31 new.member m.0);
        other_below = omega (arith, ltb-false 31 new.other n.0);
        apart = eqb-false new.member new.other o.0;
        side_most = ltb-false 1 new.side o.1;
        quantity_within = within 1 most_quantity new.quantity p2.0;
        amount_within = within 1 most_amount new.amount p3.0;
        clears = not-false _ d.0;
        from_today = ltb-false new.day.0 (today_of b).0 f.0;
        day_most = ltb-false 60000 new.day.0 f.1;
        room = leb-false 128 b.legs.count p12.0;
      }

  -- the age of what is not due before today is 0
  fresh_age : (o : Obligation) → (today_of b).0 ≤ o.deal.day.0 → age_of b o ≡ 0
  unfolding age_of
  fresh_age o h = age_early (closed_of b) o.deal.day (today_of b) h

  -- the obligation of two legs that fit
  made_sound : (new old : Leg) → Good new → SoundLeg old → fits old new ≡ true → Sound (obligation_of new old)
  unfolding obligation_of
  made_sound new old g s f = new_sound _ (by (eqb new.side 0) (fits_all old new f).member)
    where
      by : (t : Bool) → old.member ≡ new.other → SoundDeal (record {
        seller = (pick t new old).member;
        buyer = (pick t old new).member;
        quantity = new.quantity;
        amount = (pick t new old).amount;
        day = new.day;
      })
      by true e = record {
        quantity_some = g.quantity_within.0;
        quantity_most = g.quantity_within.1;
        amount_some = g.amount_within.0;
        amount_most = g.amount_within.1;
        seller_below = g.member_below;
        buyer_below = omega (arith, g.other_below);
        parties_apart = λ z. g.apart (z ∙ e);
        day_most = g.day_most;
      }
      by false e = record {
        quantity_some = g.quantity_within.0;
        quantity_most = g.quantity_within.1;
        amount_some = s.amount_some;
        amount_most = s.amount_most;
        seller_below = omega (arith, g.other_below);
        buyer_below = g.member_below;
        parties_apart = λ z. g.apart (sym z ∙ e);
        day_most = g.day_most;
      }

  fits_waits : (old new : Leg) → fits old new ≡ true → waiting_one old ≡ 1
  fits_waits old new f = rw (fits_all old new f).waits

  one_most : (l : Leg) → waiting_one l ≤ 1
  one_most l = pick_case (λ (k : ℕ). k ≤ 1) (is_waiting l.state) 1 0 (λ e. omega arith) (λ e. omega arith)

  alone_valid : (new : Leg) → Good new → Valid (entered_alone b new).book
  unfolding entered_alone
  alone_valid new g =
      let a = valid_with b.legs v.legs new g.room (record { amount_some = g.amount_within.0; amount_most = g.amount_within.1 }) in
      let w = waiting_with b.legs v.legs new g.room in
      with_legs_valid (with_leg new b.legs) a (omega (arith, v.room, one_most new))

  -- there is room for the obligation of a match
  pub matched_room : (new : Leg) (k : ℕ) → Good new → lowest_fit b.legs new ≡ Some k → (k < 128) × (b.ledger.count < 64)
  matched_room new k g e =
      let f = found_below b.legs new k e in
      let one = fits_waits (leg_at b.legs k) new f.1 in
      let w = waiting_state b.legs v.legs k f.0 Withdrawn in
      (omega (arith, f.0, g.room), omega (arith, v.room, g.room))

  matched_valid : (new : Leg) (k : ℕ) → Good new → lowest_fit b.legs new ≡ Some k → Valid (entered_with b new k).book
  unfolding entered_with obligation_of
  matched_valid new k g e =
      let f = found_below b.legs new k e in
      let n = b.ledger.count in
      let old = leg_at b.legs k in
      let s = leg_sound b.legs v.legs k f.0 in
      let one = fits_waits old new f.1 in
      let w1 = waiting_state b.legs v.legs k f.0 (Matched n) in
      let legs = with_state k (Matched n) b.legs in
      let v1 = valid_state b.legs v.legs k f.0 (Matched n) in
      let w2 = waiting_with legs v1 (in_state (Matched n) new) g.room in
      let o = obligation_of new old in
      let room = (matched_room new k g e).1 in
      with_parts_valid (with_leg (in_state (Matched n) new) legs) (with_new o b.ledger)
      (valid_with legs v1 (in_state (Matched n) new) g.room (record { amount_some = g.amount_within.0; amount_most = g.amount_within.1 }))
      (valid_more b.ledger v.ledger o room (made_sound new old g s f.1))
      (omega (arith, v.room))
      refl
      (λ m h. set_case (Timely b) b.ledger.obligations n m o no_obligation (omega (arith, v.ledger.size)) (λ q. made o refl) (λ q. v.timely m (below m n h q)))
    where
      below : (m n : ℕ) → m < n + 1 → (m ≡ n → ⊥) → m < n
      below m n h q = omega arith

      made : (o : Obligation) → o.deal.day ≡ new.day → Timely b o
      made o d = record { clears = rw d g.clears; young = λ q. omega (arith, fresh_age o (omega (arith, g.from_today, ap (λ (j : Day). j.0) d))) }

  entered_valid : (new : Leg) (r : Fit) → Good new → lowest_fit b.legs new ≡ r → Valid (entered_by b new r).book
  entered_valid new None g e = alone_valid new g
  entered_valid new (Some k) g e = matched_valid new k g e

  pub enter_valid : (member other side q a : ℕ) (j : Day) → Valid (enter b member other side q a j).book
  unfolding enter
  enter_valid member other side q a j =
      let new = new_leg member other side q a j in
      outcome_case (λ r. Valid r.book) _ _ (enter_refused b) (λ k. v) (λ e. entered_valid new (lowest_fit b.legs new) (good new e) refl)
