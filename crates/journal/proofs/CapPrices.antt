-- Every obligation whose age is above grace has had its Close at age = grace, whose price is at least 1: `known_capped` at
-- the end. An obligation is never due before the day of its Enter, and each accepted Close adds one to the age of an
-- obligation whose settlement day has come, so no age is passed over.
use Rattle.std.specs.Prelude.{Option, Some, None}
use Prim.Native.Nat.{ℕ, ◌+◌, ◌≤◌, ◌<◌}
use native.Mathlib.Omega.{arith}
use mathlib.Core.Path.{◌≡◌, refl, sym, ap, ap₂, subst⁻¹, ◌∙◌}
use mathlib.Core.Bool.{Bool, true, false, ◌&&◌, ◌||◌}
use mathlib.Core.Logic.{⊎_elim}
use mathlib.Core.List.{List, [], ◌∷◌}
use lib.Dec.{eqb}
use borrow.Author.Tests.{eqb-false}
use Rattle.basics.specs.Choice.{pick}
use Rattle.basics.proofs.Cases.{below_or_not}
use Rattle.calendar.specs.declared.Day.{Day}
use Rattle.calendar.specs.Closed.{listed_days}
use Rattle.calendar.specs.Days.{clearing, age_at, next_after}
use Rattle.calendar.proofs.Ages.{age_early, age_next, age_to_come}
use Rattle.ledger.specs.declared.Setup.{Setup}
use Rattle.book.specs.declared.Book.{Book}
use Rattle.book.specs.Close.{next_day}
use Rattle.journal.specs.Calls.{Opening, Call, Event, Run}
use Rattle.journal.specs.Played.{event_of, played, calls_of}
use Rattle.journal.specs.Facts.{Instructed, instructs, Ended, is_end, price_of, facts}
use Rattle.journal.specs.Sums.{closed_days_in, terms_in, moved_on, today_in, or_else, instructed_in, is_grace_day, grace_price_in, grace_closed_in}
use Rattle.journal.specs.Promise.{HasCapPrice, EveryCapPrice}
use Rattle.journal.proofs.Moves.{Agrees, told_held}
use Rattle.journal.proofs.Model.{Known, played_known}
use Rattle.journal.proofs.Does.{Does, no_some}
use Rattle.journal.proofs.Every.{call_does}

or_true : (a : Bool) → (a || true) ≡ true
or_true true = refl
or_true false = refl

-- ---- one call more
module _ (o : Opening) (b : Book) (es : List Event) (e : Event) (g : Agrees o b es) (k : EveryCapPrice o es) where
  abbrev cs : List Day
  cs = listed_days (closed_days_in o)

  -- the age of an instruction today
  abbrev age : Instructed → Day → ℕ
  age i today = (age_at cs i.day today).0

  -- grace is not 0, so an age of 0 is below it
  grace_some : 0 < (terms_in o).grace.0
  grace_some = omega (arith, g.valid.setup.terms.notice_before, ap (λ (s : Setup). s.terms.grace.0) g.setup)

  -- the settlement day of an instruction is a clearing day
  day_clears : (n : ℕ) (i : Instructed) → instructed_in n es ≡ Some i → clearing cs i.day ≡ true
  day_clears n i q =
      let h = told_held o b es g n i q in
      rw (← ap (λ (s : Setup). s.closed_days) g.setup, ← h.same) (g.valid.timely n h.below).clears

  -- what the events tell, by whether the call turns the day and whether this is the day at which the age is grace
  module _ (n : ℕ) (u w : Bool) (t : is_end (facts e).ends ≡ u) (d : is_grace_day o es (instructed_in n es) ≡ w) where
    today_is : today_in o (e ∷ es) ≡ pick u (moved_on (next_after cs (today_in o es)) (today_in o es)) (today_in o es)
    unfolding today_in
    today_is = ap (λ (a : Bool). pick a (moved_on (next_after cs (today_in o es)) (today_in o es)) (today_in o es)) t

    closed_is : grace_closed_in o n (e ∷ es) ≡ (grace_closed_in o n es || (u && w))
    unfolding grace_closed_in
    closed_is = ap₂ (λ (a c : Bool). grace_closed_in o n es || (a && c)) t d

    price_is : grace_price_in o n (e ∷ es) ≡ pick (u && w) (price_of (facts e).ends) (grace_price_in o n es)
    unfolding grace_price_in
    price_is = ap₂ (λ (a c : Bool). pick (a && c) (price_of (facts e).ends) (grace_price_in o n es)) t d

  -- where it is not the Close at age = grace, the price stays
  kept : (n : ℕ) (u w : Bool) → is_end (facts e).ends ≡ u → is_grace_day o es (instructed_in n es) ≡ w → (u && w) ≡ false → HasCapPrice o es n → HasCapPrice o (e ∷ es) n
  kept n u w t d f c = record {
    closed = closed_is n u w t d ∙ rw (f, c.closed);
    price = rw (price_is n u w t d, f) c.price;
  }

  -- the day stays
  stays_capped : is_end (facts e).ends ≡ false → ((n : ℕ) (i : Instructed) → instructs n (facts e).legs ≡ Some i → b.day.today.0 ≤ i.day.0) → EveryCapPrice o (e ∷ es)
  unfolding instructed_in
  stays_capped t due n i q h = by (instructs n (facts e).legs) refl q
    where
      same_age : age i (today_in o (e ∷ es)) ≡ age i (today_in o es)
      same_age = ap (age i) (today_is n false _ t refl)

      by : (d : Option Instructed) → instructs n (facts e).legs ≡ d → or_else d (instructed_in n es) ≡ Some i → HasCapPrice o (e ∷ es) n
      by None m r = kept n false _ t refl refl (k n i r (omega (arith, h, same_age)))
      by (Some j) m r =
          let same : j ≡ i = cc in
          let early = due n j m in
          absurd (omega (arith, h, same_age, grace_some, age_early cs i.day (today_in o es) (rw (← g.today, ← same) early)))

  -- the day turns
  turns_capped : is_end (facts e).ends ≡ true → ((n : ℕ) → instructs n (facts e).legs ≡ None) → 1 ≤ price_of (facts e).ends → (next : Day) → next_day b ≡ Some next → EveryCapPrice o (e ∷ es)
  unfolding instructed_in
  turns_capped t made p next q n i r h =
      ⊎_elim
      (λ (z : (today_in o es).0 < i.day.0). absurd (omega (arith, h, next_age, grace_some, age_to_come cs i.day (today_in o es) next (day_clears n i instructed) z there)))
      (λ (z : i.day.0 ≤ (today_in o es).0).
      by (eqb (age i (today_in o es)) (terms_in o).grace.0) refl (age_next cs i.day (today_in o es) next z there))
      (below_or_not (today_in o es).0 i.day.0)
    where
      instructed : instructed_in n es ≡ Some i
      instructed = ap (λ (d : Option Instructed). or_else d (instructed_in n es)) (sym (made n)) ∙ r

      there : next_after cs (today_in o es) ≡ Some next
      there = ap₂ (λ (s : Setup) (d : Day). next_after (listed_days s.closed_days) d) (sym g.setup) (sym g.today) ∙ q

      next_age : age i (today_in o (e ∷ es)) ≡ age i next
      next_age = ap (age i) (today_is n true _ t refl ∙ ap (λ (d : Option Day). moved_on d (today_in o es)) there)

      by : (w : Bool) → eqb (age i (today_in o es)) (terms_in o).grace.0 ≡ w → age i next ≡ age i (today_in o es) + 1 → HasCapPrice o (e ∷ es) n
      by true d one =
          let day = ap (is_grace_day o es) instructed ∙ d in
          record { closed = closed_is n true true t day ∙ or_true (grace_closed_in o n es); price = rw (price_is n true true t day) p }
      by false d one =
          kept n true false t (ap (is_grace_day o es) instructed ∙ d) refl (k n i instructed (omega (arith, h, next_age, one, eqb-false (age i (today_in o es)) (terms_in o).grace.0 d)))

  -- either way
  capped_step : {after : Book} → Does b after (facts e) e.words → EveryCapPrice o (e ∷ es)
  capped_step d = by (facts e).ends refl
    where
      by : (x : Option Ended) → (facts e).ends ≡ x → EveryCapPrice o (e ∷ es)
      by None q = stays_capped (rw q) d.due
      by (Some y) q =
          let c = d.closes y q in
          turns_capped (rw q) (λ n. rw c.legs) (rw (q, c.price) c.ends.price_some) c.next c.on

-- ---- every run
abbrev RunCapped : Run → Type 0
RunCapped s = EveryCapPrice s.opening s.past

played_capped : (o : Opening) (cs : List Call) → RunCapped (played o cs)
unfolding instructed_in
played_capped o [] = λ n i q h. absurd (no_some q)
played_capped o (c ∷ earlier) =
    let s = played o earlier in
    let g = (played_known o earlier).agrees in
    capped_step s.opening s.book s.past (event_of s.book c) g (played_capped o earlier) (call_does s.book g.valid c)

pub known_capped : (s : Run) → Known s → EveryCapPrice s.opening s.past
known_capped s k = subst⁻¹ RunCapped k.answered (played_capped s.opening (calls_of s.past))
