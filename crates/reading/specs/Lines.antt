-- What a line of a journal says (docs/JOURNAL.md, Lines in and What is not a call).
use Rattle.std.specs.Prelude.{ℕ, ◌≡◌, Bool, true, List, [], ◌∷◌, eqb, ltb, length}
use Rattle.std.specs.Prelude.{Option, None, Some}
use Rattle.std.proofs.lemmas.List.Edits.{sets}
use Rattle.basics.specs.Choice.{pick}
use Rattle.reading.specs.Numbers.{number_of}
use Rattle.reading.specs.Words.{first_word, further_words}
use Rattle.reading.specs.Calls.{Naming, naming_of, numbers_of, shape_right}
use Rattle.reading.specs.declared.Name.{Name}
use Rattle.reading.specs.declared.Shape.{Shape}
use Rattle.reading.specs.declared.Line.{Line}
use Rattle.reading.specs.declared.Line.TheVariants.{Call, Comment, NoCall}

-- what a line of a journal says: it is a call with its arguments, a comment, or no call
pub data Meaning : Type 0 where
  call : Name → Shape → List ℕ → Meaning
  comment : Meaning
  no_call : Meaning

-- whether a line is a comment: it is empty, or it starts with # (35)
unfoldable pub is_comment : List ℕ → Bool
is_comment [] = true
is_comment (b ∷ bs) = eqb b 35

-- the most bytes of a call's line: 65,536
abbrev pub most_bytes : ℕ
most_bytes = 65_536

-- What a line says, by its name and its numbers. It is a call if its first word is a name, every word after it is a
-- number, and these numbers have the shape of the call.
unfoldable pub call_with : Option Naming → Option (List ℕ) → Meaning
call_with None ns = no_call
call_with (Some x) None = no_call
call_with (Some x) (Some ns) = pick (shape_right x.shape ns) (call x.name x.shape ns) no_call

-- What a line says. A call is a name and then its arguments, on a line that is no comment and not too long.
unfoldable pub meaning_of : List ℕ → Meaning
meaning_of line =
    pick (is_comment line) comment
    (pick (ltb most_bytes (length line)) no_call (call_with (naming_of (first_word line)) (numbers_of (further_words line))))

-- what a line is: a call with the number of its arguments, a comment, or no call
unfoldable pub line_of : Meaning → Line
line_of (call name shape ns) = Call name shape (length ns)
line_of comment = Comment
line_of no_call = NoCall

-- a number and then others, or none if there is no number
unfoldable pub if_number : Option ℕ → List ℕ → List ℕ
if_number None ns = []
if_number (Some n) ns = n ∷ ns

-- the numbers of a list of words, up to the first word that is no number
unfoldable pub numbers_ahead : List (List ℕ) → List ℕ
numbers_ahead [] = []
numbers_ahead (w ∷ ws) = if_number (number_of w) (numbers_ahead ws)

-- the numbers that are read, or none if no call is named
unfoldable pub if_named : Option Naming → List ℕ → List ℕ
if_named None ns = []
if_named (Some x) ns = ns

-- the numbers that are read from a line, whether or not it turns out to be a call
unfoldable pub numbers_read : List ℕ → List ℕ
numbers_read line =
    pick (is_comment line) []
    (pick (ltb most_bytes (length line)) [] (if_named (naming_of (first_word line)) (numbers_ahead (further_words line))))

-- A line was read. The answer is what the line says. The numbers that were read from it are in the first places, as
-- many as there are places for, and every other place is as it was. If the line is a call, these numbers are its
-- arguments.
pub record Understood (line places after : List ℕ) (r : Line) : Type 0 where
  pub answer : r ≡ line_of (meaning_of line)
  pub numbers : after ≡ sets places 0 (numbers_read line)
