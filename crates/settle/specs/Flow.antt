-- Bytes in and out: how far the input and the output have come, and what reads and writes do to them. The operating
-- system decides which bytes a read brings and whether a write succeeds (docs/JOURNAL.md, Input and output).
use Rattle.std.specs.Prelude.{ℕ, zero, suc, ◌+◌, ◌≤◌, min, ◌≡◌, true, false, List, [], ◌++◌, leb, ℤ, pos, negsuc, length, Result, Ok, Err}
use Rattle.std.proofs.lemmas.List.Edits.{sets}
use Rattle.lines.specs.declared.Feed.{Feed}
use Rattle.lines.specs.declared.Taken.{Taken}
use Rattle.lines.specs.Input.{used_up, filled_to, dropped_from, ahead, taken_of}
use Rattle.lines.specs.Input as input
use Rattle.answers.specs.Text.{most_answer}
use Rattle.settle.specs.declared.flow.Read.{Read}
use Rattle.settle.specs.declared.flow.Read.TheVariants.{Bytes, Nothing, Error}
use Rattle.settle.specs.declared.flow.Course.{Course}
use Rattle.settle.specs.declared.flow.Course.TheVariants.{Going, Over, Failed}
use Rattle.settle.specs.declared.flow.Flow.{Flow}

-- the flow with this input, and with the run in this course
abbrev pub flow_at : Feed → Course → Flow
flow_at feed course = record { feed = feed; course = course }

-- the flow before anything is read or written
abbrev pub at_start : Flow
at_start = flow_at input.at_start Going

-- The number by which the system answered a read, as the library hands it on: as a count of bytes, or as an error, which
-- stands for a number below zero.
unfoldable pub answered : {E : Type 0} → Result ℕ E → ℤ
answered (Ok n) = pos n
answered (Err e) = negsuc 0

-- What a read brought, by the number that the system answered. Below zero the read failed, at zero the input is over,
-- and any other number says how many bytes were read. They are never more than the buffer has places for.
unfoldable pub read_of : ℤ → ℕ → Read
read_of (negsuc n) most = Error
read_of (pos zero) most = Nothing
read_of (pos (suc n)) most = Bytes (min (suc n) most)

-- The flow of a run that has failed: no more of the bytes that were read are taken.
abbrev pub failed_from : Feed → Flow
failed_from f = flow_at (dropped_from f) Failed

-- the flow after a read, by what the read brought: bytes, nothing, or an error
abbrev pub read_into : Feed → Read → Flow
read_into f (Bytes n) = flow_at (filled_to n f) Going
read_into f Nothing = flow_at f Over
read_into f Error = failed_from f

-- the system answered a read with a number, and the flow is as this number says
pub record ReadOn (f : Feed) (after : List ℕ) (r : Flow) : Type 0 where
  pub got : ℤ
  pub read : r ≡ read_into f (read_of got (length after))

-- What is done before bytes of a line are taken, while the answers `out` wait in the output, which has this many places.
-- It depends on whether all that was read is used up, on whether there is room for the longest answer, on whether the
-- answers so far could be written, and on what a read brought. After a write no answer waits, even if the write failed.
pub data FedOn (f : Flow) (places : ℕ) (out part after : List ℕ) : Flow → List ℕ → Type 0 where
  -- bytes are left, and there is room: nothing is written or read
  ready : used_up f.feed ≡ false → leb (length out + most_answer) places ≡ true → after ≡ part → FedOn f places out part after f out
  -- bytes are left, and there was no room: the answers so far were written
  cleared : used_up f.feed ≡ false → leb (length out + most_answer) places ≡ false → after ≡ part →
      FedOn f places out part after (flow_at f.feed Going) []
  -- bytes are left, and there was no room: the write failed
  uncleared : used_up f.feed ≡ false → leb (length out + most_answer) places ≡ false → after ≡ part →
      FedOn f places out part after (failed_from f.feed) []
  -- all is used up: the answers so far were written, and more was read
  fed : {r : Flow} → used_up f.feed ≡ true → length after ≡ length part → ReadOn f.feed after r → FedOn f places out part after r []
  -- all is used up: the write failed
  unfed : used_up f.feed ≡ true → after ≡ part → FedOn f places out part after (failed_from f.feed) []

-- bytes of the current line were taken, and they are in the line's buffer
pub record TakenOn (f : Flow) (part line after : List ℕ) (r : Taken) : Type 0 where
  pub took : r ≡ taken_of f.feed part (length line)
  pub held : after ≡ sets line f.feed.held (ahead f.feed part)

-- The text of an answer was put into the output, after the answers that wait there. The output has enough places for
-- them. The input continues after the bytes that were taken, and the course of the run is the same as before.
pub record ToldOn (f : Flow) (t : Taken) (text : List ℕ) (places : ℕ) (out after : List ℕ) (r : Flow) : Type 0 where
  pub wrote : after ≡ out ++ text
  pub fits : length after ≤ places
  pub next : r.feed ≡ t.feed
  pub same : r.course ≡ f.course
