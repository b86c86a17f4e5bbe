-- A run whose input is over is complete: nothing has failed, every line of the text was played, the lines are counted
-- right, and every answer was handed to a write.
use Prim.Native.Nat.{ℕ, zero, suc, ◌+◌, ◌≤◌, ◌<◌, min}
use native.Mathlib.Omega.{arith}
use mathlib.Core.Path.{◌≡◌, refl, sym, ap, ap₂, ◌∙◌}
use mathlib.Core.Bool.{Bool, true, false}
use mathlib.Core.Logic.{inl, inr}
use mathlib.Core.List.{List, [], ◌∷◌, ◌++◌, append_assoc, append-nil}
use lib.Dec.{ltb}
use lib.IntN.{ℤ, pos, negsuc}
use lib.ListN.{length, take, length-map, length-take}
use lib.Seq.{length-take-le}
use borrow.Author.Tests.{ltb-true, ltb-false}
use Rattle.basics.specs.Choice.{pick}
use Rattle.basics.proofs.Fronts.{between_none}
use Rattle.lines.specs.declared.Feed.{Feed}
use Rattle.lines.specs.declared.Taken.{Taken}
use Rattle.lines.specs.Input.{used_up, one_more, lines_of, taken_of, ends, size}
use Rattle.lines.specs.Text.{Cut, uncut, with_bytes, lines_in, cut_to, unread}
use Rattle.lines.proofs.Bounds.{taken_counts, taken_none}
use Rattle.reading.specs.declared.Line.{Line}
use Rattle.reading.specs.declared.Line.TheVariants.{Call, Comment}
use Rattle.reading.specs.declared.Name.{Name}
use Rattle.reading.specs.declared.Shape.{Shape}
use Rattle.answers.specs.declared.Answer.{Answer}
use Rattle.answers.specs.Told.{nothing}
use Rattle.answers.specs.Text.{answer_text}
use Rattle.book.specs.declared.Book.{Book}
use Rattle.settle.specs.declared.calls.Asked.{Asked}
use Rattle.settle.specs.declared.calls.Played.{Played}
use Rattle.settle.specs.declared.flow.Course.TheVariants.{Going, Over, Failed}
use Rattle.settle.specs.declared.flow.Flow.{Flow}
use Rattle.settle.specs.Asked.{asks}
use Rattle.settle.specs.Flow.{read_of, read_into, FedOn}
use Rattle.settle.specs.Flow.FedOn.{ready, cleared, uncleared, fed, unfed}
use Rattle.settle.specs.Turns.{Gives, Held, Turn, begins, Reached, most_turns}
use Rattle.settle.specs.Turns.Gives.{opening, calling, showing, balancing, looking, targeting, ruling, passing, objecting}
use Rattle.settle.specs.Turns.Reached.{start, turn}
use Rattle.settle.specs.Ending.{over_text, text_after, last_text, PlaysIn}
use Rattle.settle.specs.Read.{answered_by, is_error, fails_by, written_by, played_in, read_in, answered_in, failed_in, written_in, answers_in, held_text, Complete, Handed}
use Rattle.settle.proofs.Flows.{fed_kept}
use Rattle.settle.proofs.Texts.{reached_follows}

-- ---- the courses of a run differ from each other
going_over : {A : Type 0} → Going ≡ Over → A
going_over e = absurd (let z : ◌≡◌ {A = ℕ} 0 1 = cc in omega arith)

failed_over : {A : Type 0} → Failed ≡ Over → A
failed_over e = absurd (let z : ◌≡◌ {A = ℕ} 0 1 = cc in omega arith)

over_failed : Over ≡ Failed → ⊥
over_failed e = let z : ◌≡◌ {A = ℕ} 0 1 = cc in omega arith

going_failed : Going ≡ Failed → ⊥
going_failed e = let z : ◌≡◌ {A = ℕ} 0 1 = cc in omega arith

-- ---- the input is over
-- the system answered a read with 0, all that was read is used up, and no answer waits to be written
record OverBy {f r : Flow} {places : ℕ} {out part after waiting : List ℕ} (d : FedOn f places out part after r waiting) : Type 0 where
  answered : answered_by d ≡ pos 0 ∷ []
  used : used_up r.feed ≡ true
  none : waiting ≡ []

-- if the input is over after a read, the system answered the read with 0
read_over : (f : Flow) (most : ℕ) (z : ℤ) → used_up f.feed ≡ true → (read_into f.feed (read_of z most)).course ≡ Over
    → (z ≡ pos 0) × (used_up (read_into f.feed (read_of z most)).feed ≡ true)
unfolding read_of
read_over f most (negsuc n) u e = failed_over e
read_over f most (pos zero) u e = (refl, u)
read_over f most (pos (suc n)) u e = going_over e

over_by : {f r : Flow} {places : ℕ} {out part after waiting : List ℕ} (d : FedOn f places out part after r waiting) → f.course ≡ Going
    → r.course ≡ Over → OverBy d
unfolding answered_by
over_by (ready u w e) g o = going_over (sym g ∙ o)
over_by (cleared u w e) g o = going_over o
over_by (uncleared u w e) g o = failed_over o
over_by {f} {r} {after = after} (fed u e on) g o =
    let c = read_over f (length after) on.got u (ap (λ (x : Flow). x.course) (sym on.read) ∙ o) in
    record {
      answered = ap (λ (z : ℤ). z ∷ []) c.0;
      used = ap (λ (x : Flow). used_up x.feed) on.read ∙ c.1;
      none = refl;
    }
over_by (unfed u e) g o = failed_over o

-- ---- if the run has not failed, no read and no write has failed
error_fails : (f : Feed) (most : ℕ) (z : ℤ) → ((read_into f (read_of z most)).course ≡ Failed → ⊥) → is_error (read_of z most) ≡ false
unfolding read_of
error_fails f most (negsuc n) h = absurd (h refl)
error_fails f most (pos zero) h = refl
error_fails f most (pos (suc n)) h = refl

fails_not : {f r : Flow} {places : ℕ} {out part after waiting : List ℕ} (d : FedOn f places out part after r waiting) → (r.course ≡ Failed → ⊥) → fails_by d ≡ false
unfolding fails_by
fails_not (ready u w e) h = refl
fails_not (cleared u w e) h = refl
fails_not (uncleared u w e) h = absurd (h refl)
fails_not {f} {after = after} (fed u e on) h =
    error_fails f.feed (length after) on.got (λ z. h (ap (λ (x : Flow). x.course) on.read ∙ z))
fails_not (unfed u e) h = absurd (h refl)

pub unfailed : {first h : Held} {n : ℕ} (r : Reached first n h) → (h.flow.course ≡ Failed → ⊥) → failed_in r ≡ false
unfolding failed_in
unfailed start h = refl
unfailed (turn r t) h =
    rw (fails_not t.feeds (λ z. h (t.tells.same ∙ z)), unfailed r (λ z. going_failed (sym t.going ∙ z)))

-- ---- how lines are counted
-- The count of lines is the number of lines that were played, up to the largest number of 64 bits. No more lines were
-- played than there were turns.
record Counts {first h : Held} {n : ℕ} (r : Reached first n h) : Type 0 where
  ended : h.flow.feed.ended ≡ min (length (played_in r)) most_turns
  few : length (played_in r) ≤ n

more_counts : (ended : Bool) (x : List ℕ) (xs : List (List ℕ)) (was now n : ℕ) → was ≡ min (length xs) most_turns → length xs ≤ n
    → now ≡ pick ended (one_more was) was
    → (now ≡ min (length (pick ended (x ∷ xs) xs)) most_turns) × (length (pick ended (x ∷ xs) xs) ≤ suc n)
unfolding one_more
more_counts true x xs was now n e l c = (omega (arith, e, c), omega arith)
more_counts false x xs was now n e l c = (omega (arith, e, c), omega arith)

counts : {part line numbers words : List ℕ} {places : ℕ} {h : Held} {n : ℕ} (r : Reached (begins part line numbers words places) n h) → Counts r
unfolding played_in
counts start = record { ended = omega arith; few = omega arith }
counts (turn {n} {h} {after} r t) =
    let before = counts r in
    let kept = fed_kept t.feeds (reached_follows r).read in
    let took = ap (λ (x : Taken). x.feed.ended) t.takes.took
    ∙ taken_counts t.fed.feed after.part (length h.line)
    ∙ ap₂ (λ (b : Bool) (k : ℕ). pick b (one_more k) k) (ap ends (sym t.takes.took)) kept.ended in
    let both = more_counts (ends t.taken) (take (size t.taken) after.line) (played_in r) h.flow.feed.ended t.taken.feed.ended n
    before.ended before.few took in
    record { ended = ap (λ (f : Feed). f.ended) t.tells.next ∙ both.0; few = both.1 }

-- ---- every answer is handed to a write
-- the bytes that were written in a turn, and those that still wait, are the ones that waited before it
written_all : {f r : Flow} {places : ℕ} {out part after waiting : List ℕ} (d : FedOn f places out part after r waiting)
    → written_by d ++ waiting ≡ out
unfolding written_by
written_all (ready u w e) = refl
written_all {out = out} (cleared u w e) = append-nil out
written_all {out = out} (uncleared u w e) = append-nil out
written_all {out = out} (fed u e on) = append-nil out
written_all {out = out} (unfed u e) = append-nil out

-- The bytes that were handed to writes and those that wait in the output are together the answers so far.
pub told_all : {part line numbers words : List ℕ} {places : ℕ} {h : Held} {n : ℕ} (r : Reached (begins part line numbers words places) n h)
    → written_in r ++ h.out ≡ answers_in r
unfolding written_in answers_in
told_all start = refl
told_all (turn {n} {h} {after} r t) =
    let text = answer_text t.answer t.taken.feed.ended after.words in
    let done = written_by t.feeds in
    ap (λ (xs : List ℕ). (written_in r ++ done) ++ xs) t.tells.wrote
    ∙ sym (append_assoc (written_in r ++ done) t.waiting text)
    ∙ ap (λ (xs : List ℕ). xs ++ text)
    (append_assoc (written_in r) done t.waiting
    ∙ ap (λ (xs : List ℕ). written_in r ++ xs) (written_all t.feeds)
    ∙ told_all r)

-- ---- the last turn
-- a call is no comment
call_comment : {A : Type 0} (name : Name) (shape : Shape) (n : ℕ) → Call name shape n ≡ Comment → A
call_comment name shape n e = absurd (let z : ◌≡◌ {A = ℕ} 0 1 = cc in omega arith)

-- a comment has no answer
passes : {b : Book} {a : Asked} {ns ws after : List ℕ} {l : Line} {p : Played} → Gives b a ns ws l p after → l ≡ Comment → p.answer ≡ nothing
passes (opening shape n) e = call_comment Name.Open shape n e
passes (calling name shape n k h) e = call_comment name shape n e
passes (showing shape n) e = call_comment Name.Status shape n e
passes (balancing shape n) e = call_comment Name.Account shape n e
passes (looking shape n answer h) e = call_comment Name.Look shape n e
passes (targeting shape n) e = call_comment Name.Target shape n e
passes (ruling shape n) e = call_comment Name.Rules shape n e
passes passing e = refl
passes objecting e = absurd (let z : ◌≡◌ {A = ℕ} 0 1 = cc in omega arith)

module _ {first h after : Held} {n : ℕ} (r : Reached first n h) (t : Turn h after) (over : after.flow.course ≡ Over) where
  over_is : OverBy t.feeds
  over_is = over_by t.feeds t.going (sym t.tells.same ∙ over)

  -- no line ends in the last turn, and nothing is left to take
  none_ends : ends t.taken ≡ false
  none_ends =
      ap ends t.takes.took
      ∙ (taken_none t.fed.feed after.part (length h.line) over_is.used).0

  none_left : unread after.flow.feed after.part ≡ []
  none_left =
      let taken : Feed = (taken_of t.fed.feed after.part (length h.line)).feed in
      let from : taken.from ≡ taken.to = (taken_none t.fed.feed after.part (length h.line) over_is.used).1 in
      let is : after.flow.feed ≡ taken = t.tells.next ∙ ap (λ (x : Taken). x.feed) t.takes.took in
      ap (λ (f : Feed). unread f after.part) is ∙ between_none after.part taken.from taken.to (omega (arith, from))

  -- there is no answer in the last turn
  no_text : answer_text t.answer t.taken.feed.ended after.words ≡ []
  unfolding asks answer_text nothing
  no_text =
      let quiet : t.asked.line ≡ Comment = ap (λ (a : Asked). a.line) t.asking ∙ rw none_ends in
      let answer : t.answer ≡ nothing = passes t.gives quiet in
      ap (λ (a : Answer). answer_text a t.taken.feed.ended after.words) answer

  none_waits : after.out ≡ []
  none_waits = t.tells.wrote ∙ ap₂ ◌++◌ over_is.none no_text

-- if no line ends in a turn, the lines that were played stay the same
rest_same : (ended : Bool) (x : List ℕ) (xs : List (List ℕ)) → ended ≡ false → pick ended (x ∷ xs) xs ≡ xs
rest_same ended x xs e = rw e

-- the number of lines is the number of those that have ended, and one more if bytes are left
line_number : (ended held lines rest places : ℕ) → ended ≡ lines → lines < most_turns → 0 < places → held ≡ min places rest
    → pick (ltb 0 held) (min (ended + 1) most_turns) ended ≡ lines + pick (ltb 0 rest) 1 0
line_number ended held lines rest places e few some h = by (ltb 0 held) refl (ltb 0 rest) refl
  where
    by : (s : Bool) → ltb 0 held ≡ s → (u : Bool) → ltb 0 rest ≡ u → pick s (min (ended + 1) most_turns) ended ≡ lines + pick u 1 0
    by true f true g = omega arith
    by true f false g = absurd (omega (arith, ltb-true 0 held f, ltb-false 0 rest g))
    by false f true g = absurd (omega (arith, ltb-false 0 held f, ltb-true 0 rest g))
    by false f false g = omega arith

-- the lines are counted right if fewer were played than a run has turns at most
counted : {part line numbers words : List ℕ} {places : ℕ} {h : Held} {n : ℕ} (r : Reached (begins part line numbers words places) n h)
    → length (played_in r) < most_turns → 0 < length h.line → held_text r ≡ cut_to (length h.line) (with_bytes uncut (read_in r))
    → lines_of h.flow.feed ≡ lines_in (with_bytes uncut (read_in r))
unfolding lines_of lines_in one_more
counted {h = h} r few places lines =
    let c = with_bytes uncut (read_in r) in
    let ended : h.flow.feed.ended ≡ length c.ended =
    (counts r).ended
    ∙ omega (arith, few)
    ∙ ap (λ (x : Cut). length x.ended) lines
    ∙ length-map c.ended (take (length h.line)) in
    let held : h.flow.feed.held ≡ min (length h.line) (length c.rest) =
    sym (length-take-le h.flow.feed.held h.line (reached_follows r).held)
    ∙ ap (λ (x : Cut). length x.rest) lines
    ∙ length-take (length h.line) c.rest in
    line_number h.flow.feed.ended h.flow.feed.held (length c.ended) (length c.rest) (length h.line) ended
    (omega (arith, few, ap (λ (x : Cut). length x.ended) lines, length-map c.ended (take (length h.line))))
    places
    held

-- The main law of this module: a run whose input is over is complete.
pub over_complete : {part line numbers words : List ℕ} {places : ℕ} {h : Held} {n : ℕ} (r : Reached (begins part line numbers words places) n h)
    → n ≤ most_turns → 0 < length h.line → h.flow.course ≡ Over → Complete r
unfolding answered_in lines_in lines_of one_more played_in
over_complete start few places over = going_over over
over_complete (turn {n} {h} {after} r t) few places over =
    let follows = reached_follows (turn r t) in
    let left : follows.left ≡ [] =
    elim follows.waits [ inl e ↦ absurd (over_failed (sym over ∙ e)) | inr e ↦ e ∙ none_left r t over ] in
    let text : read_in (turn r t) ≡ follows.taken =
    follows.text ∙ ap (λ (xs : List ℕ). follows.taken ++ xs) left ∙ append-nil follows.taken in
    let lines : held_text (turn r t) ≡ cut_to (length after.line) (with_bytes uncut (read_in (turn r t))) =
    follows.cuts ∙ ap (λ (xs : List ℕ). cut_to (length after.line) (with_bytes uncut xs)) (sym text) in
    let few_played : length (played_in (turn r t)) < most_turns =
    omega (arith, few, (counts r).few, ap length (rest_same (ends t.taken) (take (size t.taken) after.line) (played_in r) (none_ends r t over))) in
    record {
      earlier = answered_in r;
      over = ap (λ (zs : List ℤ). zs ++ answered_in r) (over_is r t over).answered;
      unfailed = unfailed (turn r t) (λ z. over_failed (sym over ∙ z));
      lines = lines;
      count = counted (turn r t) few_played places lines;
      told = sym (append-nil (written_in (turn r t)))
          ∙ ap (λ (xs : List ℕ). written_in (turn r t) ++ xs) (sym (none_waits r t over))
          ∙ told_all (turn r t);
    }

-- what is written last, by the course of the run
last_going : (f : Flow) (line out : List ℕ) → f.course ≡ Going → last_text f line out ≡ out
unfolding text_after
last_going f line out e = rw e

last_over : (f : Flow) (line out : List ℕ) → f.course ≡ Over → last_text f line out ≡ over_text f.feed line
unfolding text_after
last_over f line out e = rw e

last_failed : (f : Flow) (line out : List ℕ) → f.course ≡ Failed → last_text f line out ≡ []
unfolding text_after
last_failed f line out e = rw e

pub all_handed : {part line numbers words part' line' numbers' words' out' : List ℕ} {places places' : ℕ}
    (p : PlaysIn (begins part line numbers words places) part' line' numbers' words' places' out') → 0 < length line'
    → Handed p.plays.reached out'
all_handed {line' = line'} p some =
    let r = p.plays.reached in
    let f = p.flow in
    record {
      going = λ e. ap (λ (xs : List ℕ). written_in r ++ xs) (p.last ∙ last_going f line' p.answers e) ∙ told_all r;
      over = λ e.
          let whole = over_complete r p.plays.few some e in
          (ap₂ ◌++◌ whole.told (p.last ∙ last_over f line' p.answers e), whole);
      failed = λ e. p.last ∙ last_failed f line' p.answers e;
    }
