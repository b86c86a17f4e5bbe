-- The input, line by line: how far it has come, and what is taken from it.
use Rattle.std.specs.Prelude.{ℕ, ◌+◌, min, Bool, List, leb, ltb, length, Some, None}
use Rattle.std.specs.Option.{is_some, unwrap_or}
use Rattle.basics.specs.Choice.{pick}
use Rattle.basics.specs.Lists.{between, up_to}
use Rattle.writing.specs.Answers.{line_feed}
use Rattle.lines.specs.declared.Feed.{Feed}
use Rattle.lines.specs.declared.Taken.{Taken}

-- the feed before anything is read
abbrev pub at_start : Feed
at_start = record { from = 0; to = 0; held = 0; ended = 0 }

-- whether all bytes that were read are taken
unfoldable pub used_up : Feed → Bool
used_up f = leb f.to f.from

-- the feed after a read that brought this number of bytes
unfoldable pub filled_to : ℕ → Feed → Feed
filled_to to f = record { from = 0; to = to; held = f.held; ended = f.ended }

-- the bytes up to the first line feed
abbrev pub up_to_line_feed : List ℕ → List ℕ
up_to_line_feed bs = up_to line_feed bs

-- the bytes ahead: those that were read and not yet taken, up to the end of the current line
unfoldable pub ahead : Feed → List ℕ → List ℕ
ahead f part = up_to_line_feed (between f.from f.to part)

-- the number of lines after one more has ended; the count stays at the largest number of 64 bits
unfoldable pub one_more : ℕ → ℕ
one_more n = min (n + 1) 18_446_744_073_709_551_615

-- the feed after the bytes that were read and not yet taken were dropped
unfoldable pub dropped_from : Feed → Feed
dropped_from f = record { from = f.to; to = f.to; held = f.held; ended = f.ended }

-- how many lines a text has once it is over: those that have ended, and a last one that has no line feed
unfoldable pub lines_of : Feed → ℕ
lines_of f = pick (ltb 0 f.held) (one_more f.ended) f.ended

-- whether the current line has ended with what was taken
abbrev pub ends : Taken → Bool
ends t = is_some t.line

-- how many bytes of the line are held if it has ended
abbrev pub size : Taken → ℕ
size t = unwrap_or t.line 0

-- What is taken if the current line ends at a place: the bytes after its line feed are taken next.
unfoldable pub ended_at : ℕ → ℕ → Feed → Taken
ended_at end size f = record {
  feed = record { from = end + 1; to = f.to; held = 0; ended = one_more f.ended };
  line = Some size;
}

-- What is taken if the current line has not ended: all bytes that were read are taken, and more of the line is still to
-- be read.
unfoldable pub goes_on : ℕ → Feed → Taken
goes_on held f = record {
  feed = record { from = f.to; to = f.to; held = held; ended = f.ended };
  line = None;
}

-- how many bytes of the current line are held after the bytes ahead were added, if there are this many places
unfoldable pub held_with : ℕ → Feed → List ℕ → ℕ
held_with places f part = min places (f.held + length (ahead f part))

-- What is taken: the bytes ahead. They end the line if its line feed was read too.
unfoldable pub taken_of : Feed → List ℕ → ℕ → Taken
taken_of f part places =
    pick (ltb (f.from + length (ahead f part)) f.to)
    (ended_at (f.from + length (ahead f part)) (held_with places f part) f)
    (goes_on (held_with places f part) f)
