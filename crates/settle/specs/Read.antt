-- What was read and written in all turns of a run: the text that was read, the lines of it that were played, what the
-- system answered to reads, and the answers that were handed to writes.
use Rattle.std.specs.Prelude.{ℕ, ◌≤◌, ◌≡◌, Bool, true, false, ◌||◌, ◌⊎◌, List, [], ◌∷◌, ◌++◌, ℤ, pos, length, take}
use Rattle.basics.specs.Choice.{pick}
use Rattle.lines.specs.Text.{Cut, uncut, with_bytes, lines_in, cut_to, unread}
use Rattle.lines.specs.Input.{lines_of, ends, size}
use Rattle.answers.specs.Text.{answer_text}
use Rattle.settle.specs.declared.flow.Read.{Read}
use Rattle.settle.specs.declared.flow.Read.TheVariants.{Bytes, Nothing, Error}
use Rattle.settle.specs.declared.flow.Course.TheVariants.{Going, Over, Failed}
use Rattle.settle.specs.declared.flow.Flow.{Flow}
use Rattle.settle.specs.Flow.{read_of, FedOn}
use Rattle.settle.specs.Flow.FedOn.{ready, cleared, uncleared, fed, unfed}
use Rattle.settle.specs.Turns.{Held, Reached}
use Rattle.settle.specs.Turns.Reached.{start, turn}
use Rattle.settle.specs.Ending.{over_text}

-- the bytes that a read brought
unfoldable pub bytes_of : Read → List ℕ → List ℕ
bytes_of (Bytes n) part = take n part
bytes_of Nothing part = []
bytes_of Error part = []

-- the bytes that were read in a turn
unfoldable pub read_by : {f r : Flow} {places : ℕ} {out part after waiting : List ℕ} → FedOn f places out part after r waiting → List ℕ
read_by (ready u w e) = []
read_by (cleared u w e) = []
read_by (uncleared u w e) = []
read_by {after = after} (fed u e on) = bytes_of (read_of on.got (length after)) after
read_by (unfed u e) = []

-- the numbers that the system answered to reads in a turn: one, or none if the turn made no read
unfoldable pub answered_by : {f r : Flow} {places : ℕ} {out part after waiting : List ℕ} → FedOn f places out part after r waiting → List ℤ
answered_by (ready u w e) = []
answered_by (cleared u w e) = []
answered_by (uncleared u w e) = []
answered_by (fed u e on) = on.got ∷ []
answered_by (unfed u e) = []

-- whether a read brought an error
abbrev pub is_error : Read → Bool
is_error (Bytes n) = false
is_error Nothing = false
is_error Error = true

-- whether a read or a write failed in a turn
unfoldable pub fails_by : {f r : Flow} {places : ℕ} {out part after waiting : List ℕ} → FedOn f places out part after r waiting → Bool
fails_by (ready u w e) = false
fails_by (cleared u w e) = false
fails_by (uncleared u w e) = true
fails_by {after = after} (fed u e on) = is_error (read_of on.got (length after))
fails_by (unfed u e) = true

-- the bytes of the output that were handed to a write in a turn
unfoldable pub written_by : {f r : Flow} {places : ℕ} {out part after waiting : List ℕ} → FedOn f places out part after r waiting → List ℕ
written_by (ready u w e) = []
written_by {out = out} (cleared u w e) = out
written_by {out = out} (uncleared u w e) = out
written_by {out = out} (fed u e on) = out
written_by {out = out} (unfed u e) = out

-- the text that was read in a run
unfoldable pub read_in : {first h : Held} {n : ℕ} → Reached first n h → List ℕ
read_in start = []
read_in (turn r t) = read_in r ++ read_by t.feeds

-- the lines that were played in a run, the latest first
unfoldable pub played_in : {first h : Held} {n : ℕ} → Reached first n h → List (List ℕ)
played_in start = []
played_in (turn {n} {h} {after} r t) = pick (ends t.taken) (take (size t.taken) after.line ∷ played_in r) (played_in r)

-- the numbers that the system answered to reads in a run, the latest first
unfoldable pub answered_in : {first h : Held} {n : ℕ} → Reached first n h → List ℤ
answered_in start = []
answered_in (turn r t) = answered_by t.feeds ++ answered_in r

-- whether a read or a write failed in a run
unfoldable pub failed_in : {first h : Held} {n : ℕ} → Reached first n h → Bool
failed_in start = false
failed_in (turn r t) = fails_by t.feeds || failed_in r

-- the bytes that were handed to writes in a run
unfoldable pub written_in : {first h : Held} {n : ℕ} → Reached first n h → List ℕ
written_in start = []
written_in (turn r t) = written_in r ++ written_by t.feeds

-- the text of the answers to the lines that were played in a run
unfoldable pub answers_in : {first h : Held} {n : ℕ} → Reached first n h → List ℕ
answers_in start = []
answers_in (turn {after = after} r t) = answers_in r ++ answer_text t.answer t.taken.feed.ended after.words

-- the text so far, as the program has it: the lines that it played, and the bytes of the current line
abbrev pub held_text : {first h : Held} {n : ℕ} → Reached first n h → Cut
held_text {first} {h} r = record { ended = played_in r; rest = take h.flow.feed.held h.line }

-- The lines that were played are those of the text; `reached_follows` in settle/proofs/Texts.antt proves it. Some of
-- the text that was read is taken, and the rest is not: it waits to be taken, or it is dropped because the run has
-- failed. If the taken text is cut into lines, these are the lines that were played and the bytes of the current line.
-- Of a line that is longer than its buffer, the program has only the bytes that fit.
pub record Follows {first h : Held} {n : ℕ} (r : Reached first n h) : Type 0 where
  pub read : h.flow.feed.to ≤ length h.part
  pub held : h.flow.feed.held ≤ length h.line
  pub taken : List ℕ
  pub left : List ℕ
  pub text : read_in r ≡ taken ++ left
  pub waits : (h.flow.course ≡ Failed) ⊎ (left ≡ unread h.flow.feed h.part)
  pub cuts : held_text r ≡ cut_to (length h.line) (with_bytes uncut taken)

-- A run is complete; `over_complete` in settle/proofs/Completing.antt proves it of every run whose input is over. The
-- system answered the last read with 0, no read and no write has failed, the lines that were played and the bytes of a
-- torn last line are those of the whole text, the lines are counted right, and every answer was handed to a write.
pub record Complete {first h : Held} {n : ℕ} (r : Reached first n h) : Type 0 where
  pub earlier : List ℤ
  pub over : answered_in r ≡ pos 0 ∷ earlier
  pub unfailed : failed_in r ≡ false
  pub lines : held_text r ≡ cut_to (length h.line) (with_bytes uncut (read_in r))
  pub count : lines_of h.flow.feed ≡ lines_in (with_bytes uncut (read_in r))
  pub told : written_in r ≡ answers_in r

-- What was handed to writes in all, by how the run went; `all_handed` in settle/proofs/Completing.antt proves it.
-- `last` is what is written after the last turn. If the turns ran out, it was the answers and nothing else. If the
-- input was over, it was the answers, the answer to a torn last line, and the line `end`, and then the run is complete.
-- If the run has failed, nothing is written after the last turn.
pub record Handed {first h : Held} {n : ℕ} (r : Reached first n h) (last : List ℕ) : Type 0 where
  pub going : h.flow.course ≡ Going → written_in r ++ last ≡ answers_in r
  pub over : h.flow.course ≡ Over → (written_in r ++ last ≡ answers_in r ++ over_text h.flow.feed h.line) × Complete r
  pub failed : h.flow.course ≡ Failed → last ≡ []
