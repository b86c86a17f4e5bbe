-- What every call does, done or refused.
use Rattle.std.specs.Prelude.{None, Some}
use Prim.Native.Nat.{ℕ, ◌+◌, ◌-◌, ◌≤◌, ◌<◌}
use native.Mathlib.Omega.{arith}
use mathlib.Core.Path.{◌≡◌, refl, sym, ap, ◌∙◌}
use mathlib.Core.Bool.{Bool, true, false}
use mathlib.Core.List.{List, [], ◌∷◌, ◌++◌}
use lib.Dec.{eqb}
use lib.ListN.{length, get_or, set}
use lib.Seq.{get_or-take, get_or-set_same, length-take-le}
use borrow.Author.Tests.{eq-eqb, ne_eqb, not-false}
use Rattle.basics.specs.Choice.{pick}
use Rattle.basics.specs.Lists.{total}
use Rattle.basics.specs.Refusals.{answer}
use Rattle.basics.proofs.Cases.{pick_case, or_false}
use Rattle.basics.proofs.Refusals.{passed, by_number, by_number₂}
use Rattle.calendar.specs.declared.Day.{Day}
use Rattle.offers.proofs.Holding.{listed_none, ranked_with}
use Rattle.rates.specs.Rows.{row_of, with_row, entered_rows}
use Rattle.rates.proofs.Keeping.{entered_listed}
use Rattle.instructions.specs.declared.Leg.{Leg}
use Rattle.instructions.specs.declared.Legs.{Legs}
use Rattle.instructions.specs.declared.LegState.{LegState}
use Rattle.instructions.specs.declared.LegState.TheVariants.{Waiting, Withdrawn, Matched}
use Rattle.instructions.specs.Legs.{no_leg, in_state, leg_at, entered, with_state}
use Rattle.instructions.specs.Match.{Fit, delivering, lowest_fit, fits}
use Rattle.instructions.proofs.Keeping.{entered_with_lem, entered_state, valid_state}
use Rattle.instructions.proofs.Matching.{found_below, fits_all}
use Rattle.ledger.specs.declared.Part.{Part}
use Rattle.ledger.specs.declared.Part.TheVariants as part
use Rattle.ledger.specs.Obligations.{no_obligation}
use Rattle.ledger.specs.Ledger.{most_obligations, with_new}
use Rattle.ledger.proofs.Moving.{part_by}
use Rattle.closing.specs.Close.{close_lines}
use Rattle.closing.proofs.Lines.{lines_back, written_fits}
use Rattle.refusals.specs.Calls.{enter_refusals, cancel_refusals_of}
use Rattle.refusals.proofs.Offering.{offers_few}
use Rattle.payments.specs.Month.{payouts_of, paid_out}
use Rattle.book.specs.declared.Book.{Book}
use Rattle.book.specs.declared.Entered.{Entered}
use Rattle.book.specs.declared.Done.{Done}
use Rattle.book.specs.declared.Cancelled.{Cancelled}
use Rattle.book.specs.declared.Delivered.{Delivered}
use Rattle.book.specs.declared.Closed.{Closed}
use Rattle.book.specs.Book.{with_legs, with_ledger, Valid}
use Rattle.book.specs.Instructing.{new_leg, obligation_of, entered_alone, entered_with, entered_by, enter_refused, done_refused}
use Rattle.book.specs as rules
use Rattle.book.specs.Month.{month_book, month_answer}
use Rattle.book.proofs as laws
use Rattle.book.proofs.Kept.{Good, good, matched_room}
use Rattle.book.proofs.Refused.{entered_zero}
use Rattle.journal.specs.Calls.{Call}
use Rattle.journal.specs.Played.{of_done, of_entered, of_cancelled, of_delivered, of_closed, of_paid, outcome_of}
use Rattle.journal.specs.Facts.{enters, withdraws, neither, Instructed, instructed_by, instructs, only_legs, only_moves, only_rates}
use Rattle.journal.specs.History.{leg_into_state}
use Rattle.journal.proofs.Rows.{instructed_from, instructed_at, RowNew, Rows, rows_same, rows_more}
use Rattle.journal.proofs.Steps.{moves_within, plain, plain_untold, rows_moved, rows_wished}
use Rattle.journal.proofs.Turns.{moves_close, moves_month}
use Rattle.journal.proofs.Does.{Does, DoesAs, no_some, moves_nothing, does_plain, does_nothing, refused_does}

module _ (b : Book) (v : Valid b) where
  -- ---- the legs
  abbrev ls : List Leg
  ls = entered b.legs

  pub entered_length : length ls ≡ b.legs.count
  entered_length = length-take-le b.legs.count b.legs.rows (omega (arith, v.legs.size, v.legs.few))

  pub entered_at : (k : ℕ) → k < b.legs.count → get_or ls k no_leg ≡ leg_at b.legs k
  entered_at k h = get_or-take b.legs.count b.legs.rows k no_leg h

  entered_into : (k : ℕ) (state : LegState) → k < b.legs.count → entered (with_state k state b.legs) ≡ leg_into_state k state ls
  entered_into k state h =
      entered_state b.legs v.legs k h state ∙ ap (λ (l : Leg). set ls k (in_state state l)) (sym (entered_at k h))

  -- ---- Withdraw
  withdraw_does : (leg member : ℕ) → Valid (outcome_of b (Call.withdraw leg member)).book → DoesAs b (Call.withdraw leg member) (outcome_of b (Call.withdraw leg member))
  withdraw_does leg member =
      laws.Outcomes.withdraw_case b (λ (x : Done). Valid x.book → DoesAs b (Call.withdraw leg member) (of_done x)) leg member
      (λ i z w. refused_does b v (Call.withdraw leg member) i [] [] z)
      (λ h w. does_plain b _ (withdraws leg) [] [] (moves_nothing b _ (withdraws leg) [] w refl refl refl refl refl (λ n. refl)) (record {
        close_since = refl;
        has_closed = refl;
        last = refl;
        offers = λ xs q. q;
        rates = λ xs p. p;
        legs = entered_into leg Withdrawn h;
        amounts = λ k below above. absurd (omega arith);
        proper = omega (arith, entered_length);
      }) (λ n i e. absurd (no_some e)))

  -- ---- Enter
  -- what the obligation of a leg and one that fits it was instructed to be
  made_instructed : (new old : Leg) → fits old new ≡ true → instructed_at (obligation_of new old) ≡ instructed_by new
  unfolding obligation_of instructed_by
  made_instructed new old f = by (eqb new.side 0) (fits_all old new f).member
    where
      by : (t : Bool) → old.member ≡ new.other →
          instructed_from (record { seller = (pick t new old).member; buyer = (pick t old new).member; quantity = new.quantity; amount = (pick t new old).amount; day = new.day }) ≡
          pick t (record { seller = new.member; buyer = new.other; quantity = new.quantity; day = new.day })
          (record { seller = new.other; buyer = new.member; quantity = new.quantity; day = new.day })
      by true e = rw e
      by false e = rw e

  -- the obligation of a leg and one that fits it is a new row
  made_row : (new old : Leg) → fits old new ≡ true → RowNew (plain (enters b.legs.count (b.ledger.count + 1) new) []) b.ledger.count (obligation_of new old)
  unfolding obligation_of total
  made_row new old f = record {
    instructed = rw (eq-eqb (b.ledger.count + 1) (b.ledger.count + 1) refl) (ap Some (sym (made_instructed new old f)));
    moves = λ k. refl;
    wishes = λ m. refl;
    parts = λ k. part_by k (λ j. 0) new.quantity;
    price = refl;
    wish = λ m. no_wish (eqb _ m) (eqb _ m);
  }
    where
      no_wish : (t u : Bool) → pick t false (pick u false false) ≡ false
      no_wish true u = refl
      no_wish false true = refl
      no_wish false false = refl

  made_rows : (new old : Leg) (legs : Legs) → b.ledger.count < most_obligations → fits old new ≡ true →
      Rows b (with_legs legs (with_ledger (with_new (obligation_of new old) b.ledger) b)) (plain (enters b.legs.count (b.ledger.count + 1) new) [])
  made_rows new old legs room f =
      rows_more b v legs _ (obligation_of new old) refl room (made_row new old f)
      (λ k z. plain_untold _ [] k (rw (ne_eqb (b.ledger.count + 1) (k + 1) (λ q. z (next k q)))))
    where
      next : (k : ℕ) → b.ledger.count + 1 ≡ k + 1 → k ≡ b.ledger.count
      next k q = omega arith

  -- an instruction is for its own day
  instructed_day : (new : Leg) → (instructed_by new).day ≡ new.day
  unfolding instructed_by
  instructed_day new = pick_case (λ (d : Instructed). d.day ≡ new.day) (eqb new.side 0) _ _ (λ e. refl) (λ e. refl)

  due_later : (new : Leg) (k : ℕ) → b.day.today.0 ≤ new.day.0 → (n : ℕ) (i : Instructed) → instructs n (enters b.legs.count k new) ≡ Some i → b.day.today.0 ≤ i.day.0
  due_later new k h n i e = by (eqb k (n + 1)) e
    where
      by : (u : Bool) → pick u (Some (instructed_by new)) None ≡ Some i → b.day.today.0 ≤ i.day.0
      by true q = let d : instructed_by new ≡ i = cc in rw (← d, instructed_day new) h
      by false q = absurd (no_some q)

  -- an Enter, by the leg that fits
  entered_does : (new : Leg) (r : Fit) → Good b v new → in_state Waiting new ≡ new → lowest_fit b.legs new ≡ r → Valid (entered_by b new r).book →
      Does b (entered_by b new r).book (only_legs (enters (entered_by b new r).leg (entered_by b new r).obligation new)) []
  unfolding entered_alone entered_with obligation_of lowest_fit
  entered_does new None g fresh e w =
      let nobody : (n : ℕ) → instructs n (enters b.legs.count 0 new) ≡ None = λ n. rw (ne_eqb 0 (n + 1) (λ z. absurd (omega arith))) in
      does_plain b _ (enters b.legs.count 0 new) [] [] (moves_nothing b _ (enters b.legs.count 0 new) [] w refl refl refl refl refl nobody) (record {
        close_since = refl;
        has_closed = refl;
        last = refl;
        offers = λ xs p. p;
        rates = λ xs p. p;
        legs = rw e (entered_with_lem b.legs v.legs new g.room);
        amounts = λ k below above. absurd (omega arith);
        proper = (sym entered_length, fresh, rw e refl);
      }) (due_later new 0 g.from_today)
  entered_does new (Some k) g fresh e w =
      let n = b.ledger.count in
      let old = leg_at b.legs k in
      let f = found_below b.legs new k e in
      let w' = valid_state b.legs v.legs k f.0 (Matched n) in
      let number : n + 1 - 1 ≡ n = omega arith in
      let room = (matched_room b v new k g e).1 in
      let legs = (entered_with b new k).book.legs in
      does_plain b _ (enters b.legs.count (n + 1) new) [] []
      (moves_within b _ (plain (enters b.legs.count (n + 1) new) []) refl refl w refl refl refl (made_rows new old legs room f.1)) (record {
        close_since = refl;
        has_closed = refl;
        last = refl;
        offers = λ xs p. p;
        rates = λ xs p. p;
        legs = rw (e, number)
            (entered_with_lem (with_state k (Matched n) b.legs) w' (in_state (Matched n) new) g.room
            ∙ ap (λ (x : List Leg). x ++ in_state (Matched n) new ∷ []) (entered_into k (Matched n) f.0));
        amounts = λ m h l.
            let q : m ≡ n = omega (arith, h, l) in
            rw (q, eq-eqb (n + 1) (n + 1) refl, e)
            (ap (λ (x : Leg). Some (delivering new x).amount) (entered_at k f.0)
            ∙ rw (get_or-set_same b.ledger.obligations n (obligation_of new old) no_obligation (omega (arith, room, v.ledger.size))));
        proper = (sym entered_length, fresh, rw e (omega (arith, entered_length, f.0), λ z. omega arith));
      }) (due_later new (n + 1) g.from_today)

  enter_does : (member other side q a : ℕ) (j : Day) → Valid (outcome_of b (Call.enter member other side q a j)).book → DoesAs b (Call.enter member other side q a j) (outcome_of b (Call.enter member other side q a j))
  unfolding rules.Instructing.enter
  enter_does member other side q a j =
      let new = new_leg member other side q a j in
      let n = answer (enter_refusals b.setup.closed_days b.day.today b.legs.count new) in
      by_number (λ (x : Entered). Valid x.book → DoesAs b (Call.enter member other side q a j) (of_entered x)) n _ (enter_refused b)
      (λ z w. refused_does b v (Call.enter member other side q a j) n (0 ∷ 0 ∷ []) [] z)
      (λ e w. rw (entered_zero b new (lowest_fit b.legs new)) (entered_does new (lowest_fit b.legs new) (good b v new e) refl refl w))

  -- ---- Deliver and Cancel
  -- a call that changes some rows: what of them moves to each part, and whose wish it is
  rows_does : (after : Book) (f : Part → ℕ → ℕ) (w : ℕ → ℕ → Bool) → Valid after → after.setup ≡ b.setup → after.day ≡ b.day → after.legs ≡ b.legs → after.last ≡ b.last → after.rates ≡ b.rates →
      after.ledger.count ≡ b.ledger.count → after.ledger.offers ≡ b.ledger.offers → after.ledger.accounts ≡ b.ledger.accounts → Rows b after (only_moves f w) → Does b after (only_moves f w) []
  rows_does after f w v' setup day legs last rates count offers accounts rows = record {
    moves = moves_within b after (only_moves f w) refl refl v' setup (rw day) accounts rows;
    leaves = record { close_since = rw day; has_closed = rw day; last = last; offers = λ xs p. rw offers p; rates = λ xs p. rw rates p; legs = rw legs; amounts = λ k below above. absurd (omega (arith, count)); proper = tt };
    due = λ k i e. absurd (no_some e);
    closes = λ d e. absurd (no_some e);
    pays = λ cs e. absurd (no_some e);
    fits = omega arith;
  }

  deliver_does : (n q : ℕ) → Valid (outcome_of b (Call.deliver n q)).book → DoesAs b (Call.deliver n q) (outcome_of b (Call.deliver n q))
  deliver_does n q =
      laws.Outcomes.deliver_case b (λ (x : Delivered). Valid x.book → DoesAs b (Call.deliver n q) (of_delivered x)) n q
      (λ i z w. refused_does b v (Call.deliver n q) i (0 ∷ []) [] z)
      (λ h e w. rows_does _ _ _ w refl refl refl refl refl refl refl refl (rows_moved b v part.Delivered n q h))

  cancel_does : (n member : ℕ) → Valid (outcome_of b (Call.cancel n member)).book → DoesAs b (Call.cancel n member) (outcome_of b (Call.cancel n member))
  unfolding cancel_refusals_of
  cancel_does n member =
      laws.Outcomes.cancel_case b (λ (x : Cancelled). Valid x.book → DoesAs b (Call.cancel n member) (of_cancelled x)) n member
      (λ i z w. refused_does b v (Call.cancel n member) i (0 ∷ []) [] z)
      (λ h e w. rows_does _ _ _ w refl refl refl refl refl refl refl refl (rows_wished b v n member h (not-false _ (or_false (passed 14 _ _ e refl).0).0)))

  -- ---- Offer
  offer_does : (n supplier q price : ℕ) → Valid (outcome_of b (Call.offer n supplier q price)).book → DoesAs b (Call.offer n supplier q price) (outcome_of b (Call.offer n supplier q price))
  offer_does n supplier q price =
      laws.Outcomes.offer_case b (λ (x : Done). Valid x.book → DoesAs b (Call.offer n supplier q price) (of_done x)) n supplier q price
      (λ i z w. refused_does b v (Call.offer n supplier q price) i [] [] z)
      (λ h e f w. does_plain b _ neither (record { obligation = n; supplier = supplier; quantity = q; price = price } ∷ []) []
      (moves_nothing b _ neither _ w refl refl refl refl refl (λ k. refl)) (record {
        close_since = refl;
        has_closed = refl;
        last = refl;
        offers = λ xs p. ranked_with b.ledger.offers _ (offers_few _ _ _ _ _ _ f) v.ledger.offers.size xs p;
        rates = λ xs p. p;
        legs = refl;
        amounts = λ k below above. absurd (omega arith);
        proper = tt;
      }) (λ k i e. absurd (no_some e)))

  -- ---- Rate
  rate_does : (start : Day) (rate : ℕ) → Valid (outcome_of b (Call.rate start rate)).book → DoesAs b (Call.rate start rate) (outcome_of b (Call.rate start rate))
  unfolding entered_rows total
  rate_does start rate =
      laws.Outcomes.rate_case b (λ (x : Done). Valid x.book → DoesAs b (Call.rate start rate) (of_done x)) start rate
      (λ i z w. refused_does b v (Call.rate start rate) i [] [] z)
      (λ g w. record {
        moves = moves_within b _ (only_rates _) refl refl w refl refl refl
            (rows_same b _ (only_rates _) refl refl refl (λ n. record { instructed = refl; moves = λ k. refl; wishes = λ m. refl }));
        leaves = record {
          close_since = refl;
          has_closed = refl;
          last = refl;
          offers = λ xs p. p;
          rates = λ xs p. entered_listed b.day.today b.rates v.rates (row_of start rate) g.room ∙ ap (with_row (row_of start rate)) p;
          legs = refl;
          amounts = λ k below above. absurd (omega arith);
          proper = tt;
        };
        due = λ n i e. absurd (no_some e);
        closes = λ d e. absurd (no_some e);
        pays = λ cs e. absurd (no_some e);
        fits = omega arith;
      })

  -- ---- Close
  close_does : (price : ℕ) (ws : List ℕ) → DoesAs b (Call.close price ws) (outcome_of b (Call.close price ws))
  close_does price ws =
      laws.Outcomes.close_case b v (λ (x : Closed) (us : List ℕ). DoesAs b (Call.close price ws) (of_closed x us)) price ws
      (λ i z. refused_does b v (Call.close price ws) i (0 ∷ []) ws z)
      (λ next c.
      let d = rules.Close.day_end b price in
      let ls = close_lines d b.ledger in
      rw (lines_back ls ws) (record {
        moves = moves_close b v d c.ends next c.on;
        leaves = record { close_since = refl; has_closed = refl; last = refl; offers = λ xs p. listed_none; rates = λ xs p. p; legs = refl; amounts = λ k below above. absurd (omega arith); proper = tt };
        due = λ n i e. absurd (no_some e);
        closes = λ x p. let same : record { price = price; lines = ls } ≡ x = cc in
            rw (← same) (record { end = d; ends = c.ends; price = refl; lines = refl; rate = refl; is_set = c.rate; next = next; on = c.on; legs = refl });
        pays = λ cs e. absurd (no_some e);
        fits = written_fits ls ws;
      }))

  -- ---- Again
  again_does : (ws : List ℕ) → DoesAs b (Call.again ws) (outcome_of b (Call.again ws))
  again_does ws =
      laws.Outcomes.again_case b (λ (x : Closed) (us : List ℕ). DoesAs b (Call.again ws) (of_closed x us)) ws
      (λ i z. refused_does b v (Call.again ws) i (0 ∷ []) ws z)
      (λ e. does_nothing b b _ v refl refl refl refl refl refl)

  -- ---- Month
  month_does : (cs ps : List ℕ) → DoesAs b (Call.month cs ps) (outcome_of b (Call.month cs ps))
  unfolding rules.Month.month paid_out
  month_does cs ps =
      by_number₂ (λ (x : Done) (us : List ℕ). DoesAs b (Call.month cs ps) (of_paid x us cs)) (month_answer b cs (length ps)) (record { answer = 0; book = month_book b }) (done_refused b)
      (payouts_of b.ledger.accounts cs) (λ k. ps)
      (λ z. refused_does b v (Call.month cs ps) (month_answer b cs (length ps)) [] ps z)
      (λ e. record {
        moves = moves_month b v cs;
        leaves = record { close_since = refl; has_closed = refl; last = refl; offers = λ xs p. p; rates = λ xs p. p; legs = refl; amounts = λ k below above. absurd (omega arith); proper = tt };
        due = λ n i e. absurd (no_some e);
        closes = λ d e. absurd (no_some e);
        pays = λ ds s. let same : cs ≡ ds = cc in rw (← same) (record { places = length ps; accepted = e; payouts = refl });
        fits = omega arith;
      })

  pub call_does : (c : Call) → DoesAs b c (outcome_of b c)
  call_does (Call.enter member other side q a j) = enter_does member other side q a j (laws.Kept.enter_valid b v member other side q a j)
  call_does (Call.withdraw leg member) = withdraw_does leg member (laws.Kept.withdraw_valid b v leg member)
  call_does (Call.cancel n member) = cancel_does n member (laws.Kept.cancel_valid b v n member)
  call_does (Call.deliver n q) = deliver_does n q (laws.Kept.deliver_valid b v n q)
  call_does (Call.offer n supplier q price) = offer_does n supplier q price (laws.Kept.offer_valid b v n supplier q price)
  call_does (Call.rate start rate) = rate_does start rate (laws.Kept.rate_valid b v start rate)
  call_does (Call.close price ws) = close_does price ws
  call_does (Call.again ws) = again_does ws
  call_does (Call.month cs ps) = month_does cs ps
