-- The lines that are played are the lines of the text, whatever the parts in which the input is read.
use Prim.Native.Nat.{ℕ, zero, suc, ◌-◌, ◌≤◌, ◌<◌, min}
use native.Mathlib.Omega.{arith}
use mathlib.Core.Path.{◌≡◌, refl, sym, ap, ap₂, ◌∙◌}
use mathlib.Core.Bool.{true}
use mathlib.Core.Logic.{◌⊎◌, inl, inr}
use mathlib.Core.List.{List, [], ◌∷◌, ◌++◌, map, append_assoc, append-nil}
use lib.IntN.{ℤ, pos, negsuc}
use lib.ListN.{length, take}
use lib.Seq.{take-nil, length-sets}
use borrow.Author.Tests.{leb-true}
use Rattle.basics.proofs.Fronts.{between_none}
use Rattle.lines.specs.declared.Feed.{Feed}
use Rattle.lines.specs.Input.{used_up, filled_to, dropped_from, ahead}
use Rattle.lines.specs.Text.{Cut, uncut, with_bytes, cut_to, unread, taken_bytes, cut_with}
use Rattle.lines.proofs.Cutting.{with_append, took_cuts}
use Rattle.reading.specs.Lines.{most_bytes, meaning_of}
use Rattle.reading.proofs.Long.{meaning_cut}
use Rattle.settle.specs.declared.flow.Course.TheVariants.{Going, Failed}
use Rattle.settle.specs.declared.flow.Flow.{Flow}
use Rattle.settle.specs.Flow.{read_of, failed_from, read_into, FedOn}
use Rattle.settle.specs.Flow.FedOn.{ready, cleared, uncleared, fed, unfed}
use Rattle.settle.specs.Turns.{Held, Turn, begins, Reached}
use Rattle.settle.specs.Turns.Reached.{start, turn}
use Rattle.settle.specs.Read.{bytes_of, read_by, read_in, played_in, Follows}
use Rattle.settle.proofs.Flows.{Kept, fed_kept}
use Rattle.settle.proofs.Turning.{took_within}

-- this holds before anything is read
started : (part line numbers words : List ℕ) (places : ℕ)
    → Follows {first = begins part line numbers words places} {h = begins part line numbers words places} {n = 0} start
unfolding read_in played_in with_bytes
started part line numbers words places = record { read = omega arith; held = omega arith; taken = []; left = []; text = refl; waits = inr refl; cuts = ap (λ (xs : List ℕ). record { ended = []; rest = xs }) (sym (take-nil (length line))) }

-- a run that has failed drops the bytes that it has not taken, so none are left
dropped_none : (f : Feed) (part : List ℕ) → unread (dropped_from f) part ≡ []
unfolding dropped_from
dropped_none f part = between_none part f.to f.to (omega arith)

-- if all that was read is used up, no bytes are left
used_none : (f : Feed) (part : List ℕ) → used_up f ≡ true → unread f part ≡ []
unfolding used_up
used_none f part u = between_none part f.from f.to (leb-true f.to f.from u)

-- Which bytes are taken next: those that were left and then those that were added by a read, or none if the run has
-- failed.
record Next (f r : Flow) (part after added : List ℕ) : Type 0 where
  next : (r.course ≡ Failed) ⊎ (unread f.feed part ++ added ≡ unread r.feed after)
  none : r.course ≡ Failed → unread r.feed after ≡ []

-- a run that goes on has not failed
not_failed : {A : Type 0} → Going ≡ Failed → A
not_failed e = absurd (let z : ◌≡◌ {A = ℕ} 0 1 = cc in omega arith)

module _ (f : Flow) (part after : List ℕ) where
  -- this holds if the run has failed
  next_failed : (added : List ℕ) → Next f (failed_from f.feed) part after added
  next_failed added = record { next = inl refl; none = λ e. dropped_none f.feed after }

  -- it holds if nothing was read and the bytes that were left still wait
  next_same : (r : Flow) → r.course ≡ Going → r.feed ≡ f.feed → after ≡ part → Next f r part after []
  next_same r going same e = record {
    next = inr (append-nil (unread f.feed part) ∙ ap₂ unread (sym same) (sym e));
    none = λ z. not_failed (sym going ∙ z);
  }

  -- it holds if all was used up and more was read
  next_read : used_up f.feed ≡ true → (z : ℤ) → Next f (read_into f.feed (read_of z (length after))) part after (bytes_of (read_of z (length after)) after)
  unfolding read_of bytes_of filled_to
  next_read u (negsuc n) = next_failed []
  next_read u (pos zero) = record {
    next = inr (ap (λ (xs : List ℕ). xs ++ []) (used_none f.feed part u) ∙ sym (used_none f.feed after u));
    none = λ z. absurd (let y : ◌≡◌ {A = ℕ} 0 1 = cc in omega arith);
  }
  next_read u (pos (suc n)) =
      let k : ℕ = min (suc n) (length after) in
      let all : k ≡ k - 0 = omega arith in
      record {
        next = inr (ap (λ (xs : List ℕ). xs ++ take k after) (used_none f.feed part u) ∙ ap (λ (m : ℕ). take m after) all);
        none = λ z. not_failed z;
      }

-- so it holds in every case
fed_next : {f r : Flow} {places : ℕ} {out part after waiting : List ℕ} (h : f.course ≡ Going) (d : FedOn f places out part after r waiting)
    → Next f r part after (read_by d)
unfolding read_by
fed_next {f} {part = part} {after} h (ready u w e) = next_same f part after f h refl e
fed_next {f} {part = part} {after} h (cleared u w e) = next_same f part after _ refl refl e
fed_next {f} {part = part} {after} h (uncleared u w e) = next_failed f part after []
fed_next {f} {part = part} {after} h (fed u e on) = rw on.read (next_read f part after u on.got)
fed_next {f} {part = part} {after} h (unfed u e) = next_failed f part after []

-- if two lists make the empty list together, the first is empty
front_none : (xs ys : List ℕ) → [] ≡ xs ++ ys → xs ≡ []
front_none [] ys e = refl
front_none (x ∷ xs) ys e = absurd (let z : ◌≡◌ {A = ℕ} 0 1 = cc in omega arith)

-- one more turn
module _ {first h after : Held} {n : ℕ} (r : Reached first n h) (t : Turn h after) (follows : Follows r) where
  abbrev feed : Feed
  feed = t.fed.feed

  -- the line has as many places as before
  places : length after.line ≡ length h.line
  places = ap length t.takes.held ∙ length-sets h.line feed.held (ahead feed after.part)

  kept : Kept h.flow after.part t.fed
  kept = fed_kept t.feeds follows.read

  held_fed : feed.held ≡ h.flow.feed.held
  held_fed = kept.held

  held_before : feed.held ≤ length h.line
  held_before = omega (arith, held_fed, follows.held)

  -- the text that was taken before this turn, cut into lines, and the bytes that are taken in it
  abbrev before : Cut
  before = with_bytes uncut follows.taken

  abbrev now_taken : List ℕ
  now_taken = taken_bytes feed after.part t.taken

  took : (unread feed after.part ≡ now_taken ++ unread t.taken.feed after.part)
      × (cut_with (map (take (length h.line)) before.ended) t.taken after.line
      ≡ cut_to (length h.line) (with_bytes before now_taken))
  took =
      took_cuts feed after.part h.line after.line t.taken before held_before kept.within
      t.takes.took t.takes.held
      (ap (λ (k : ℕ). take k h.line) held_fed ∙ ap (λ (c : Cut). c.rest) follows.cuts)

  -- the bytes of the text that were left wait for this turn
  waited : follows.left ≡ unread h.flow.feed h.part
  waited = elim follows.waits [ inl e ↦ not_failed (sym t.going ∙ e) | inr e ↦ e ]

  abbrev added : List ℕ
  added = read_by t.feeds

  next_is : Next h.flow t.fed h.part after.part added
  next_is = fed_next t.going t.feeds

  -- The text grows by the bytes that are read in this turn, and its taken part grows by the bytes that are taken. The
  -- rest waits to be taken, unless the run has failed.
  record Grows (left : List ℕ) : Type 0 where
    grown : read_in r ++ added ≡ (follows.taken ++ now_taken) ++ left
    waiting : (t.fed.course ≡ Failed) ⊎ (left ≡ unread t.taken.feed after.part)

  text_grows : (left : List ℕ) × Grows left
  text_grows =
      let u : List ℕ = unread h.flow.feed h.part in
      let v : List ℕ = unread t.taken.feed after.part in
      let x : List ℕ = follows.taken in
      let behind : read_in r ++ added ≡ x ++ (u ++ added) =
      ap (λ (xs : List ℕ). xs ++ added) (follows.text ∙ ap (λ (xs : List ℕ). x ++ xs) waited) ∙ append_assoc x u added in
      elim next_is.next [
        | inl e ↦
            let none : now_taken ≡ [] = front_none now_taken v (sym (next_is.none e) ∙ took.0) in (
              u ++ added,
              record {
                grown = behind ∙ ap (λ (xs : List ℕ). xs ++ (u ++ added)) (sym (ap (λ (xs : List ℕ). x ++ xs) none ∙ append-nil x));
                waiting = inl e;
              },
            )
        | inr e ↦ (
          v,
          record {
            grown = behind ∙ ap (λ (xs : List ℕ). x ++ xs) (e ∙ took.0) ∙ sym (append_assoc x now_taken v);
            waiting = inr refl;
          },
        )
      ]

  -- the lines are those of the taken text
  lines_grow : cut_with (played_in r) t.taken after.line ≡ cut_to (length h.line) (with_bytes uncut (follows.taken ++ now_taken))
  lines_grow =
      ap (λ (xs : List (List ℕ)). cut_with xs t.taken after.line) (ap (λ (c : Cut). c.ended) follows.cuts)
      ∙ took.1
      ∙ ap (cut_to (length h.line)) (sym (with_append uncut follows.taken now_taken))

  -- the lines that were played, and the bytes that are held if the input stands as in f
  abbrev held_by : Feed → Cut
  held_by f = record { ended = (cut_with (played_in r) t.taken after.line).ended; rest = take f.held after.line }

  pub turn_follows : Follows (turn r t)
  unfolding read_in played_in
  turn_follows =
      let within = took_within t.takes in
      let grows = text_grows.1 in
      record {
        read = rw t.tells.next (omega (arith, within.read, kept.within));
        held = rw t.tells.next (omega (arith, places, within.held));
        taken = follows.taken ++ now_taken;
        left = text_grows.0;
        text = grows.grown;
        waits = elim grows.waiting [
          | inl e ↦ inl (t.tells.same ∙ e)
          | inr e ↦ inr (e ∙ ap (λ (f : Feed). unread f after.part) (sym t.tells.next))
        ];
        cuts = ap held_by t.tells.next
            ∙ lines_grow
            ∙ ap (λ (n : ℕ). cut_to n (with_bytes uncut (follows.taken ++ now_taken))) (sym places);
      }

-- So after any number of turns the lines that were played are those of the text, whatever was read and in whatever
-- parts.
pub reached_follows : {part line numbers words : List ℕ} {places : ℕ} {h : Held} {n : ℕ}
    (r : Reached (begins part line numbers words places) n h) → Follows r
reached_follows {part} {line} {numbers} {words} {places} start = started part line numbers words places
reached_follows (turn r t) = turn_follows r t (reached_follows r)

-- lines that are cut say what the whole lines say
meant : (n : ℕ) → most_bytes < n → (ls : List (List ℕ)) → map meaning_of (map (take n) ls) ≡ map meaning_of ls
meant n h [] = refl
meant n h (l ∷ ls) = ap₂ ◌∷◌ (meaning_cut n l h) (meant n h ls)

-- If there are more places than a call's line may have bytes, the lines that were played say what the lines of the text
-- say.
pub played_means : {part line numbers words : List ℕ} {places : ℕ} {h : Held} {n : ℕ}
    (r : Reached (begins part line numbers words places) n h) → most_bytes < length h.line
    → map meaning_of (played_in r) ≡ map meaning_of (with_bytes uncut (reached_follows r).taken).ended
played_means {h = h} r long =
    let f = reached_follows r in
    ap (λ (c : Cut). map meaning_of c.ended) f.cuts ∙ meant (length h.line) long (with_bytes uncut f.taken).ended
