-- How a run ends, and what is written last (docs/JOURNAL.md, Lines out and What is not a call).
use Rattle.std.specs.Prelude.{ℕ, ◌≤◌, ◌≡◌, List, [], ◌++◌, take}
use Rattle.basics.specs.Choice.{pick}
use Rattle.book.specs.declared.Book.{Book}
use Rattle.lines.specs.declared.Feed.{Feed}
use Rattle.lines.specs.Input.{lines_of}
use Rattle.reading.specs.Lines.{is_comment}
use Rattle.writing.specs.Answers.{no_call_of, end_of}
use Rattle.settle.specs.declared.flow.Course.{Course}
use Rattle.settle.specs.declared.flow.Course.TheVariants.{Going, Over, Failed}
use Rattle.settle.specs.declared.flow.Flow.{Flow}
use Rattle.settle.specs.Turns.{Held, Reached, most_turns}

-- The answer to the bytes after the last line feed of a text. They are a torn line, which is no call whatever it says.
-- If they are a comment, or if there are none, there is no answer.
unfoldable pub torn_text : ℕ → List ℕ → List ℕ
torn_text line rest = pick (is_comment rest) [] (no_call_of line)

-- what is written when the text is over: the answer to a torn last line, and the line `end` with the number of lines
unfoldable pub over_text : Feed → List ℕ → List ℕ
over_text f line = torn_text (lines_of f) (take f.held line) ++ end_of (lines_of f)

-- What is written last, by how the run went. If the turns ran out, it is the answers in the output that are not written
-- yet.
unfoldable pub text_after : Course → Flow → List ℕ → List ℕ → List ℕ
text_after Going f line out = out
text_after Over f line out = over_text f.feed line
text_after Failed f line out = []

-- what is written after the last turn
abbrev pub last_text : Flow → List ℕ → List ℕ → List ℕ
last_text f line out = text_after f.course f line out

-- The journal was played turn by turn, until the input was over, until a read or a write failed, or until the turns ran
-- out. There are as many of them as the largest number of 64 bits.
pub record Plays (first last : Held) : Type 0 where
  pub turns : ℕ
  pub reached : Reached first turns last
  pub few : turns ≤ most_turns
  pub ends : (last.flow.course ≡ Going) → turns ≡ most_turns

-- The journal was played from what the program holds at first to these contents of the buffers. `answers` is the output
-- before the last text was put there. What is in the output then is the last text, which is still to be written.
pub record PlaysIn (first : Held) (part line numbers words : List ℕ) (places : ℕ) (out : List ℕ) : Type 0 where
  pub book : Book
  pub flow : Flow
  pub answers : List ℕ
  pub plays : Plays first
      (record { book = book; flow = flow; part = part; line = line; numbers = numbers; words = words; places = places; out = answers })
  pub last : out ≡ last_text flow line answers
