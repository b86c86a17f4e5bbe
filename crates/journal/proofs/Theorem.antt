-- The promise on whole journals (docs/RULES.md, chapter Promises, G3), proved: `demand_3` at the end.
use Prim.Native.Nat.{ℕ}
use mathlib.Core.Path.{◌≡◌, refl, sym, ap, ap₂, subst⁻¹, ◌∙◌}
use mathlib.Core.List.{List, [], ◌∷◌}
use lib.ListN.{length}
use denote.Bor.{Bor}
use denote.MutBor.{MutBor}
use Rattle.netting.specs.Accounts.{debts}
use Rattle.book.specs.declared.Book.{Book}
use Rattle.book.specs.declared.Done.{Done}
use Rattle.book.specs as rules
use Rattle.book.specs.Book.{Valid}
use Rattle.book.proofs as laws
use Rattle.book.proofs.Book as code
use Rattle.journal.specs.Calls.{Opening, Call, Run}
use Rattle.journal.specs.Played.{Outcome, of_done, of_entered, of_cancelled, of_delivered, of_closed, outcome_of, after, played}
use Rattle.journal.proofs.Model.{Known, begun_known, step_known, played_known}
use Rattle.journal.proofs.Months.{debts_agree}
use Rattle.journal.proofs.CapPrices.{known_capped}
use Rattle.journal.proofs.BuyIns.{known_bought}
use Rattle.journal.proofs.Fining.{known_penalised}
use Rattle.journal.proofs.Showing.{status_shows, account_shows, all_shown, look_shows, status_learnt, account_learnt, look_learnt, status_returns, account_returns, look_returns}
use Rattle.journal.proofs.Recalling.{known_recalls}
use Rattle.journal.proofs.Reprints.{again_shows, again_learnt, again_returns}
use Rattle.journal.proofs.Demand3.{Called, Ran, May, SameAsEmpty, Promise, Demand3}

-- ---- by its contract, a call answers what the rules give
called_is : {b : Book} {c : Call} {r : Outcome} → Called b c r → r ≡ outcome_of b c
called_is (Called.entered member other side q a j r x h) = ap of_entered h.0
called_is (Called.withdrew leg member r x h) = ap of_done h.0
called_is (Called.cancelled n member r x h) = ap of_cancelled h.0
called_is (Called.delivered n q r x h) = ap of_delivered h.0
called_is (Called.offered n supplier q price r x h) = ap of_done h.0
called_is (Called.rated start rate r x h) = ap of_done h.0
called_is (Called.closed κs price lines r x h) = ap₂ of_closed h.0 h.1.0
called_is (Called.repeated κs lines r x h) = ap₂ of_closed h.0 h.1.0
called_is (Called.settled κs collected payouts r x h) =
    λ i. record { answer = (h.0 i).answer; results = []; words = h.1.0 i; kept = h.1.1.1 i; book = (h.0 i).book }

-- a Month that is given what each account owes ends as an empty one does
same_as_empty : (b : Book) → Valid b → SameAsEmpty b (debts b.ledger.accounts)
same_as_empty b v payouts typed empty h k =
    let x = called_is h in
    let y = called_is k in
    let done = laws.Paid.month_typed b v (length payouts) in
    record {
      answer = ap (λ (r : Outcome). r.answer) x ∙ ap (λ (d : Done). d.answer) done ∙ sym (ap (λ (r : Outcome). r.answer) y);
      book = ap (λ (r : Outcome). r.book) x ∙ ap (λ (d : Done). d.book) done ∙ sym (ap (λ (r : Outcome). r.book) y);
      payouts = ap (λ (r : Outcome). r.words) x ∙ laws.Paid.words_typed b v payouts ∙ sym (ap (λ (r : Outcome). r.words) y);
    }

pub known : {s : Run} → Ran s → Known s
known (Ran.opened first κs ds terms r x h) =
    let o : Opening = record { first = first; closed = ds.now; terms = terms } in
    subst⁻¹ Known
    (λ i. record { opening = o; began = record { answer = (h.0 i).answer; closed = h.1.1 i }; book = (h.0 i).book; past = [] })
    (begun_known o)
known (Ran.called {s} {c} {r} ran h) = subst⁻¹ Known (ap (after s c) (called_is h)) (step_known s c (known ran))

-- ---- what is promised of every run
may : (b : Book) → Valid b → (c : Call) → May b c
may b v (Call.enter member other side q a j) = v
may b v (Call.withdraw leg member) = v
may b v (Call.cancel n member) = v
may b v (Call.deliver n q) = v
may b v (Call.offer n supplier q price) = v
may b v (Call.rate start rate) = v
may b v (Call.close price lines) = λ κs ls. v
may b v (Call.again lines) = λ κs ls. v
may b v (Call.month collected payouts) = λ κs cs ps. v

promised : (s : Run) → Ran s → Promise s
promised s ran =
    let k = known ran in
    let g = k.agrees in
    let v = g.valid in
    record {
      answered = k.answered;
      status = λ n i e t c. status_shows s.opening s.book s.past g n i e t (status_learnt c);
      account = λ m h t c. account_shows s.opening s.book s.past g m h t (account_learnt c);
      zero_sum = λ t c. all_shown s.opening s.book s.past g t (λ m h. account_learnt (c m h));
      look = λ m h t c. look_shows s.opening s.book s.past g m h t (look_learnt c);
      again = λ ws us t c. again_shows s.book s.past (known_recalls s k) ws us t (again_learnt c);
      status_same = λ n t c. status_returns c;
      account_same = λ m t c. account_returns c;
      look_same = λ m t c. look_returns c;
      again_same = λ ws us t c. again_returns c;
      months = k.months;
      typed_or_empty = subst⁻¹ (SameAsEmpty s.book) (debts_agree s.opening s.book s.past g) (same_as_empty s.book v);
      buy_ins = known_bought s k;
      penalties = known_penalised s k;
      cap_prices = known_capped s k;
      may = may s.book v;
      may_status = λ n. v;
      may_account = λ m. v;
      may_look = λ m. v;
    }

-- ---- every Open and every list of calls has a run
-- a list that is lent to be read, and one that is lent to be written to, wherever it lies
abbrev lent : List ℕ → Bor (List ℕ)
lent ws = record { ref_ptr = (0, 0); now = ws }

abbrev lent_out : List ℕ → MutBor (List ℕ)
lent_out ws = record { ref_ptr = (0, 0); ghost_name = 0; now = ws }

-- every call on a valid book can be made
calls : (b : Book) → Valid b → (c : Call) → Called b c (outcome_of b c)
calls b v (Call.enter member other side q a j) =
    Called.entered member other side q a j _ (b, (member, (other, (side, (q, (a, (j, tt))))))) (refl, laws.Kept.enter_valid b v member other side q a j)
calls b v (Call.withdraw leg member) = Called.withdrew leg member _ (b, (leg, (member, tt))) (refl, laws.Kept.withdraw_valid b v leg member)
calls b v (Call.cancel n member) = Called.cancelled n member _ (b, (n, (member, tt))) (refl, laws.Kept.cancel_valid b v n member)
calls b v (Call.deliver n q) = Called.delivered n q _ (b, (n, (q, tt))) (refl, laws.Kept.deliver_valid b v n q)
calls b v (Call.offer n supplier q price) =
    Called.offered n supplier q price _ (b, (n, (supplier, (q, (price, tt))))) (refl, laws.Kept.offer_valid b v n supplier q price)
calls b v (Call.rate start rate) = Called.rated start rate _ (b, (start, (rate, tt))) (refl, laws.Kept.rate_valid b v start rate)
calls b v (Call.close price lines) =
    Called.closed ([], tt) price (lent_out lines) _ (b, (price, (lent_out (rules.Close.close_words b price lines), tt)))
    (refl, (refl, laws.Ended.close_valid b v price lines))
calls b v (Call.again lines) =
    Called.repeated ([], tt) (lent_out lines) _ (b, (lent_out (rules.Again.again_words b lines), tt)) (refl, (refl, laws.Ended.again_valid b v lines))
calls b v (Call.month collected payouts) =
    Called.settled ([], ([], tt)) (lent collected) (lent_out payouts) _
    (b, (lent collected, (lent_out (rules.Month.month_words b collected payouts), tt))) (refl, (refl, (laws.Paid.month_valid b v collected (length payouts), refl)))

ran : (o : Opening) (cs : List Call) → Ran (played o cs)
ran o [] =
    Ran.opened o.first ([], tt) (lent o.closed) o.terms (rules.Open.opened o.first o.closed o.terms)
    (o.first, (lent o.closed, (o.terms, tt))) (refl, ((begun_known o).agrees.valid, refl))
ran o (c ∷ cs) = Ran.called (ran o cs) (calls (played o cs).book (played_known o cs).agrees.valid c)

-- G3, Promises
pub demand_3 : {M : Type 1} → Demand3 M
demand_3 = record {
  whole = promised;
  each = ran;
  may_open = λ first κs closed terms. tt;
  owed_or_empty = same_as_empty;
  open_code = record { met = code.«open».Met.met; gives = λ w wired γ k same. code.«open».Reads.known w γ k (w.𝓡.env code.«open».Symbol.name) same (code.«open».Met.met w.𝓤 w.𝓛 w.𝓜 w.𝓡 wired) };
  enter_code = record { met = code.enter.Met.met; gives = λ w wired γ k same. code.enter.Reads.known w γ k (w.𝓡.env code.enter.Symbol.name) same (code.enter.Met.met w.𝓤 w.𝓛 w.𝓜 w.𝓡 wired) };
  withdraw_code = record { met = code.withdraw.Met.met; gives = λ w wired γ k same. code.withdraw.Reads.known w γ k (w.𝓡.env code.withdraw.Symbol.name) same (code.withdraw.Met.met w.𝓤 w.𝓛 w.𝓜 w.𝓡 wired) };
  cancel_code = record { met = code.cancel.Met.met; gives = λ w wired γ k same. code.cancel.Reads.known w γ k (w.𝓡.env code.cancel.Symbol.name) same (code.cancel.Met.met w.𝓤 w.𝓛 w.𝓜 w.𝓡 wired) };
  deliver_code = record { met = code.deliver.Met.met; gives = λ w wired γ k same. code.deliver.Reads.known w γ k (w.𝓡.env code.deliver.Symbol.name) same (code.deliver.Met.met w.𝓤 w.𝓛 w.𝓜 w.𝓡 wired) };
  offer_code = record { met = code.offer.Met.met; gives = λ w wired γ k same. code.offer.Reads.known w γ k (w.𝓡.env code.offer.Symbol.name) same (code.offer.Met.met w.𝓤 w.𝓛 w.𝓜 w.𝓡 wired) };
  rate_code = record { met = code.rate.Met.met; gives = λ w wired γ k same. code.rate.Reads.known w γ k (w.𝓡.env code.rate.Symbol.name) same (code.rate.Met.met w.𝓤 w.𝓛 w.𝓜 w.𝓡 wired) };
  close_code = record { met = code.close.Met.met; gives = λ w wired γ k same. code.close.Reads.known w γ k (w.𝓡.env code.close.Symbol.name) same (code.close.Met.met w.𝓤 w.𝓛 w.𝓜 w.𝓡 wired) };
  again_code = record { met = code.again.Met.met; gives = λ w wired γ k same. code.again.Reads.known w γ k (w.𝓡.env code.again.Symbol.name) same (code.again.Met.met w.𝓤 w.𝓛 w.𝓜 w.𝓡 wired) };
  month_code = record { met = code.month.Met.met; gives = λ w wired γ k same. code.month.Reads.known w γ k (w.𝓡.env code.month.Symbol.name) same (code.month.Met.met w.𝓤 w.𝓛 w.𝓜 w.𝓡 wired) };
  status_code = record { met = code.status.Met.met; gives = λ w wired γ k same. code.status.Reads.known w γ k (w.𝓡.env code.status.Symbol.name) same (code.status.Met.met w.𝓤 w.𝓛 w.𝓜 w.𝓡 wired) };
  account_code = record { met = code.account.Met.met; gives = λ w wired γ k same. code.account.Reads.known w γ k (w.𝓡.env code.account.Symbol.name) same (code.account.Met.met w.𝓤 w.𝓛 w.𝓜 w.𝓡 wired) };
  look_code = record { met = code.look.Met.met; gives = λ w wired γ k same. code.look.Reads.known w γ k (w.𝓡.env code.look.Symbol.name) same (code.look.Met.met w.𝓤 w.𝓛 w.𝓜 w.𝓡 wired) };
}
