-- Ages: one more at each clearing day, and the same count as the n-th clearing day.
use Rattle.std.specs.Prelude.{Option, Some, None}
use Prim.Native.Nat.{ℕ, zero, suc, ◌+◌, ◌-◌, ◌≤◌, ◌<◌}
use native.Mathlib.Nat.{sub_self, add-zero}
use native.Mathlib.Omega.{arith}
use mathlib.Core.Path.{◌≡◌, refl, sym, ap, ◌∙◌}
use mathlib.Core.Bool.{true}
use mathlib.Core.Logic.{◌↔◌, ◌⊎◌, inl, inr, ⊎_elim}
use mathlib.Core.List.{List}
use Rattle.basics.proofs.Cases.{never, below_or_not}
use Rattle.calendar.specs.declared.Day.{Day}
use Rattle.calendar.specs.declared.ClearingDays.{ClearingDays}
use Rattle.calendar.specs.Closed.{day, last_day}
use Rattle.calendar.specs.Days.{clearing_days, clearing, next_after, next_of, nth_from, nth_after, clearing_within, age_at}
use Rattle.calendar.proofs.Walks.{within_more}
use Rattle.calendar.proofs.Next.{NoneUpTo, FirstAfter, next_at, next_never}

module _ (cs : List Day) where
  -- the clearing days after j up to d
  abbrev pub counted : ℕ → ℕ → ℕ
  counted j d = clearing_within cs j (d - j)

  -- where no day after d up to d + k is a clearing day the count stays
  quiet : (j d k : ℕ) → j ≤ d → NoneUpTo cs d (d + k) → counted j (d + k) ≡ counted j d
  quiet j d zero h q = ap (counted j) (add-zero d)
  quiet j d (suc k) h q =
      let e : d + suc k ≡ d + k + 1 = omega arith in
      rw e (
      within_more cs j (d + k) (omega arith)
      ∙ rw (q (d + k + 1) (omega arith) (omega arith), add-zero) (quiet j d k h (λ x l m. q x l (omega arith)))
      )

  quiet_to : (j d e : ℕ) → j ≤ d → d ≤ e → NoneUpTo cs d e → counted j e ≡ counted j d
  quiet_to j d e h k q =
      let s : e ≡ d + (e - d) = omega arith in
      ap (counted j) s ∙ quiet j d (e - d) h (λ x l m. q x l (omega arith))

  -- the count does not fall
  rises : (j d k : ℕ) → j ≤ d → counted j d ≤ counted j (d + k)
  rises j d zero h = omega (arith, ap (counted j) (add-zero d))
  rises j d (suc k) h =
      let e : d + suc k ≡ d + k + 1 = omega arith in
      omega (arith, rises j d k h, within_more cs j (d + k) (omega arith), ap (counted j) e)

  rises_to : (j d e : ℕ) → j ≤ d → d ≤ e → counted j d ≤ counted j e
  rises_to j d e h k = let s : d + (e - d) ≡ e = omega arith in omega (arith, rises j d (e - d) h, ap (counted j) s)

  -- a clearing day counts
  grows : (j d e : ℕ) → j ≤ d → d < e → clearing cs (day e) ≡ true → counted j d < counted j e
  grows j d e h k q =
      let s : e ≡ e - 1 + 1 = omega arith in
      let t : clearing cs (day (e - 1 + 1)) ≡ true = rw s at q in
      let w : counted j (e - 1 + 1) ≡ counted j (e - 1) + 1 = within_more cs j (e - 1) (omega arith) ∙ rw t in
      omega (arith, w, ap (counted j) s, rises_to j d (e - 1) h (omega arith))

  first_counts : (j d e : ℕ) → j ≤ d → FirstAfter cs d e → counted j e ≡ counted j d + 1
  first_counts j d e h f =
      let s : e - 1 + 1 ≡ e = omega (arith, f.later) in
      let t : clearing cs (day (e - 1 + 1)) ≡ true = rw s f.clears in
      let w : counted j (e - 1 + 1) ≡ counted j (e - 1) + 1 = within_more cs j (e - 1) (omega (arith, f.later)) ∙ rw t in
      omega (arith, w, ap (counted j) s, quiet_to j d (e - 1) h (omega (arith, f.later)) f.first)

  -- before the settlement day, and on it, the age is 0
  pub age_early : (j today : Day) → today.0 ≤ j.0 → (age_at cs j today).0 ≡ 0
  unfolding age_at clearing_within
  age_early j today h = let e : today.0 - j.0 ≡ 0 = omega arith in rw e

  -- the age at the next clearing day is one more
  pub age_next : (j today next : Day) → j.0 ≤ today.0 → next_after cs today ≡ Some next → (age_at cs j next).0 ≡ (age_at cs j today).0 + 1
  unfolding age_at
  age_next j today next h q = first_counts j.0 today.0 next.0 h (next_at cs today next q).0

  -- before a settlement day that is a clearing day, the next clearing day does not pass it, and the age there is 0
  pub age_to_come : (j today next : Day) → clearing cs j ≡ true → today.0 < j.0 → next_after cs today ≡ Some next → (age_at cs j next).0 ≡ 0
  age_to_come j today next c h q =
      let f = (next_at cs today next q).0 in
      age_early j next
      (⊎_elim (λ (z : j.0 < next.0). absurd (never (sym (f.first j.0 h (omega arith)) ∙ c)))
      (λ (z : next.0 ≤ j.0). z)
      (below_or_not j.0 next.0))

  -- what the n-th clearing day after j is: j itself, or a clearing day, and n of them are counted up to it
  pub record Nth (j n e : ℕ) : Type 0 where
    pub from : j ≤ e
    pub count : counted j e ≡ n
    pub clears : (e ≡ j) ⊎ (clearing cs (day e) ≡ true)

  -- what it says that there is no n-th clearing day: fewer are counted, however far
  abbrev Fewer : ℕ → ℕ → Type 0
  Fewer j n = (x : ℕ) → j ≤ x → x ≤ last_day → counted j x < n

  -- each way that the n-th clearing day can turn out
  Outcome : ℕ → ℕ → Option Day → Type 0
  Outcome j n (Some e) = Nth j n e.0
  Outcome j n None = Fewer j n

  none_counted : (j : ℕ) → counted j j ≡ 0
  unfolding clearing_within
  none_counted j = rw sub_self

  next_outcome : (j n : ℕ) (d : Day) (r : Option Day) → next_after cs d ≡ r → Nth j n d.0 → Outcome j (suc n) r
  unfolding Outcome
  next_outcome j n d (Some e) q h =
      let f = (next_at cs d e q).0 in
      record { from = omega (arith, h.from, f.later); count = omega (arith, first_counts j d.0 e.0 h.from f, h.count); clears = inr f.clears }
  next_outcome j n d None q h = λ x l m.
      ⊎_elim (λ (z : x < d.0). omega (arith, rises_to j x d.0 l (omega arith), h.count))
      (λ (z : d.0 ≤ x). omega (arith, quiet_to j d.0 x h.from z (λ y k o. next_never cs d q y k (omega arith)), h.count))
      (below_or_not x d.0)

  nth_step : (j n : ℕ) (r : Option Day) → Outcome j n r → Outcome j (suc n) (next_of cs r)
  unfolding Outcome next_of
  nth_step j n (Some d) h = next_outcome j n d (next_after cs d) refl h
  nth_step j n None h = λ x l m. omega (arith, h x l m)

  nth_outcome : (j n : ℕ) → Outcome j n (nth_from cs (day j) n)
  unfolding Outcome nth_from
  nth_outcome j zero = record { from = omega arith; count = none_counted j; clears = inl refl }
  nth_outcome j (suc n) = nth_step j n (nth_from cs (day j) n) (nth_outcome j n)

  nth_at : (j n : ℕ) (e : Day) → nth_from cs (day j) n ≡ Some e → Nth j n e.0
  unfolding Outcome
  nth_at j n e q = rw q at (nth_outcome j n)

  nth_never : (j n : ℕ) → nth_from cs (day j) n ≡ None → Fewer j n
  unfolding Outcome
  nth_never j n q = rw q at (nth_outcome j n)

  -- the day with n clearing days counted, that is j itself or a clearing day, is the n-th
  same_day : (j n d e : ℕ) → Nth j n d → Nth j n e → d ≤ e → d ≡ e
  same_day j n d e a b h =
      ⊎_elim (λ (z : d < e).
      ⊎_elim (λ (w : e ≡ j). absurd (omega (arith, a.from)))
      (λ (w : clearing cs (day e) ≡ true). absurd (omega (arith, grows j d e a.from z w, a.count, b.count)))
      b.clears)
      (λ (z : e ≤ d). omega arith)
      (below_or_not d e)

  counted_is : (j n t : ℕ) (r : Option Day) → t ≤ last_day → Nth j n t → Outcome j n r → r ≡ Some (day t)
  unfolding Outcome
  counted_is j n t (Some e) m h o =
      let s : e.0 ≡ t = ⊎_elim (λ (z : e.0 < t). same_day j n e.0 t o h (omega arith)) (λ (z : t ≤ e.0). sym (same_day j n t e.0 h o z)) (below_or_not e.0 t) in
      ap (λ (x : ℕ). Some (day x)) s
  counted_is j n t None m h o = absurd (omega (arith, o t h.from m, h.count))

  -- today has age n exactly where it is the n-th clearing day after j; today is a clearing day from j on
  pub age_nth : (j today : Day) (n : ℕ) → j.0 ≤ today.0 → today.0 ≤ last_day → clearing cs today ≡ true →
      (age_at cs j today ≡ clearing_days n) ↔ (nth_after cs j (clearing_days n) ≡ Some today)
  unfolding age_at nth_after
  age_nth j today n h m q = (
    λ e. counted_is j.0 n today.0 (nth_from cs j n) m (record { from = h; count = ap (λ (x : ClearingDays). x.0) e; clears = inr q }) (nth_outcome j.0 n),
    λ e. ap clearing_days (nth_at j.0 n today e).count,
  )

  there_is : (j n : ℕ) (r : Option Day) → j ≤ last_day → n ≤ counted j last_day → Outcome j n r → (e : Day) × (r ≡ Some e)
  unfolding Outcome
  there_is j n (Some e) h k o = (e, refl)
  there_is j n None h k o = absurd (omega (arith, o last_day h (omega arith)))

  -- where n clearing days are left up to the last day, the n-th is there
  pub nth_exists : (j : Day) (n : ℕ) → j.0 ≤ last_day → n ≤ counted j.0 last_day → (e : Day) × (nth_after cs j (clearing_days n) ≡ Some e)
  unfolding nth_after
  nth_exists j n h k = there_is j.0 n (nth_from cs j n) h k (nth_outcome j.0 n)
