-- A text, cut into lines. The parts in which it is read do not matter.
use Rattle.std.specs.Prelude.{ℕ, ◌+◌, List, [], ◌∷◌, ◌++◌, map, eqb, ltb, length, take}
use Rattle.basics.specs.Choice.{pick}
use Rattle.basics.specs.Lists.{between}
use Rattle.writing.specs.Answers.{line_feed}
use Rattle.lines.specs.declared.Feed.{Feed}
use Rattle.lines.specs.declared.Taken.{Taken}
use Rattle.lines.specs.Input.{ahead, ends, size}

-- a text so far: its lines that have ended, the latest first, and the bytes of the current line
pub record Cut : Type 0 where
  pub ended : List (List ℕ)
  pub rest : List ℕ

-- the text before its first byte
abbrev pub uncut : Cut
uncut = record { ended = []; rest = [] }

-- the text with one more byte: a line feed ends the current line, and any other byte belongs to it
unfoldable pub with_byte : Cut → ℕ → Cut
with_byte c b =
    pick (eqb b line_feed) (record { ended = c.rest ∷ c.ended; rest = [] })
    (record { ended = c.ended; rest = c.rest ++ b ∷ [] })

-- the text with more bytes
unfoldable pub with_bytes : Cut → List ℕ → Cut
with_bytes c [] = c
with_bytes c (b ∷ bs) = with_bytes (with_byte c b) bs

-- how many lines a text has: those that have ended, and one more if there are bytes after the last line feed
unfoldable pub lines_in : Cut → ℕ
lines_in c = length c.ended + pick (ltb 0 (length c.rest)) 1 0

-- a text of which only the first bytes of each line are kept, at most as many as there are places
abbrev pub cut_to : ℕ → Cut → Cut
cut_to places c = record { ended = map (take places) c.ended; rest = take places c.rest }

-- the bytes that were read and not yet taken
abbrev pub unread : Feed → List ℕ → List ℕ
unread f part = between f.from f.to part

-- the bytes of the text that are taken: those ahead, and the line feed if the line has ended
abbrev pub taken_bytes : Feed → List ℕ → Taken → List ℕ
taken_bytes f part t = ahead f part ++ pick (ends t) (line_feed ∷ []) []

-- a text after bytes were taken: one more line if it has ended, and the bytes that are held
abbrev pub cut_with : List (List ℕ) → Taken → List ℕ → Cut
cut_with ended t line = record {
  ended = pick (ends t) (take (size t) line ∷ ended) ended;
  rest = take t.feed.held line;
}
