-- Laws of the flow: what a read brought, and where the input and the output stand before bytes of a line are taken.
use Prim.Native.Nat.{ℕ, zero, suc, ◌+◌, ◌≤◌}
use native.Mathlib.Omega.{arith}
use mathlib.Core.Path.{◌≡◌, refl, ap, ◌∙◌}
use mathlib.Core.List.{List, []}
use lib.IntN.{ℤ, pos, negsuc}
use lib.ListN.{length}
use borrow.Author.Tests.{leb-true}
use Rattle.lines.specs.declared.Feed.{Feed}
use Rattle.lines.specs.Input.{filled_to, dropped_from}
use Rattle.answers.specs.Text.{most_answer}
use Rattle.settle.specs.declared.flow.Read.{Read}
use Rattle.settle.specs.declared.flow.Course.{Course}
use Rattle.settle.specs.declared.flow.Course.TheVariants.{Going, Over}
use Rattle.settle.specs.declared.flow.Flow.{Flow}
use Rattle.settle.specs.Flow.{flow_at, read_of, failed_from, read_into, ReadOn, FedOn}
use Rattle.settle.specs.Flow.FedOn.{ready, cleared, uncleared, fed, unfed}

-- the flow after a read is as `ReadOn` says
pub read_by : {f : Feed} {after : List ℕ} {r : Flow} (z : ℤ) (x : Read) → x ≡ read_of z (length after) → r ≡ read_into f x
    → ReadOn f after r
read_by {f} z x e g = record { got = z; read = g ∙ ap (read_into f) e }

-- Before bytes are taken: the input lies within the bytes that were read, as many bytes of the current line are held as
-- before, and as many lines have ended as before.
pub record Kept (f : Flow) (after : List ℕ) (r : Flow) : Type 0 where
  pub within : r.feed.to ≤ length after
  pub held : r.feed.held ≡ f.feed.held
  pub ended : r.feed.ended ≡ f.feed.ended

-- this holds if the feed stays the same, and if the run fails
same_kept : (f : Flow) (after : List ℕ) (c : Course) → f.feed.to ≤ length after → Kept f after (flow_at f.feed c)
same_kept f after c w = record { within = w; held = refl; ended = refl }

failed_kept : (f : Flow) (after : List ℕ) → f.feed.to ≤ length after → Kept f after (failed_from f.feed)
unfolding dropped_from
failed_kept f after w = record { within = w; held = refl; ended = refl }

-- it holds after a read
read_kept : (f : Flow) (after : List ℕ) (z : ℤ) → f.feed.to ≤ length after → Kept f after (read_into f.feed (read_of z (length after)))
unfolding read_of filled_to
read_kept f after (negsuc n) w = failed_kept f after w
read_kept f after (pos zero) w = same_kept f after Over w
read_kept f after (pos (suc n)) w = record { within = omega arith; held = refl; ended = refl }

-- so it holds in every case
pub fed_kept : {f r : Flow} {places : ℕ} {out part after waiting : List ℕ} → FedOn f places out part after r waiting
    → f.feed.to ≤ length part → Kept f after r
fed_kept {f} {after = after} (ready u s e) w = same_kept f after f.course (rw e w)
fed_kept {f} {after = after} (cleared u s e) w = same_kept f after Going (rw e w)
fed_kept {f} {after = after} (uncleared u s e) w = failed_kept f after (rw e w)
fed_kept {f} {after = after} (fed u e on) w = rw on.read (read_kept f after on.got (omega (arith, w, e)))
fed_kept {f} {after = after} (unfed u e) w = failed_kept f after (rw e w)

-- Before bytes are taken: the places of the input are in order, and there is room for the longest answer.
pub record Ready (places : ℕ) (r : Flow) (waiting : List ℕ) : Type 0 where
  pub ordered : r.feed.from ≤ r.feed.to
  pub room : length waiting + most_answer ≤ places

failed_ready : (f : Flow) (places : ℕ) → most_answer ≤ places → Ready places (failed_from f.feed) []
unfolding dropped_from
failed_ready f places long = record { ordered = omega arith; room = omega arith }

read_ready : (f : Flow) (places most : ℕ) (z : ℤ) → most_answer ≤ places → f.feed.from ≤ f.feed.to
    → Ready places (read_into f.feed (read_of z most)) []
unfolding read_of filled_to
read_ready f places most (negsuc n) long o = failed_ready f places long
read_ready f places most (pos zero) long o = record { ordered = o; room = omega arith }
read_ready f places most (pos (suc n)) long o = record { ordered = omega arith; room = omega arith }

pub fed_ready : {f r : Flow} {places : ℕ} {out part after waiting : List ℕ} → FedOn f places out part after r waiting
    → most_answer ≤ places → f.feed.from ≤ f.feed.to → Ready places r waiting
fed_ready {f} {places = places} {out} (ready u s e) long o =
    record { ordered = o; room = leb-true (length out + most_answer) places s }
fed_ready (cleared u s e) long o = record { ordered = o; room = omega arith }
fed_ready {f} {places = places} (uncleared u s e) long o = failed_ready f places long
fed_ready {f} {places = places} {after = after} (fed u e on) long o = rw on.read (read_ready f places (length after) on.got long o)
fed_ready {f} {places = places} (unfed u e) long o = failed_ready f places long
