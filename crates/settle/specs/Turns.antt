-- How a journal is played, turn by turn: what the program holds between two turns, and what one turn does.
use Rattle.std.specs.Prelude.{ℕ, suc, ◌≤◌, ◌<◌, ◌≡◌, List, [], length}
use Rattle.book.specs.declared.Book.{Book}
use Rattle.lines.specs.declared.Taken.{Taken}
use Rattle.reading.specs.declared.Name.{Name}
use Rattle.reading.specs.declared.Shape.{Shape}
use Rattle.reading.specs.declared.Line.{Line}
use Rattle.reading.specs.declared.Line.TheVariants.{Call, Comment, NoCall}
use Rattle.reading.specs.Calls.{most_listed, most_numbers}
use Rattle.reading.specs.Lines.{most_bytes}
use Rattle.answers.specs.declared.Answer.{Answer}
use Rattle.answers.specs.Told.{nothing, no_call}
use Rattle.answers.specs.Text.{most_answer, answer_text}
use Rattle.settle.specs.declared.calls.Asked.{Asked}
use Rattle.settle.specs.declared.calls.Played.{Played}
use Rattle.settle.specs.declared.flow.Course.TheVariants.{Going}
use Rattle.settle.specs.declared.flow.Flow.{Flow}
use Rattle.settle.specs.Asked.{asks, noted}
use Rattle.settle.specs.Calls.{played_with, at_first, opens, Asking, asking_of, after_call, words_after}
use Rattle.settle.specs.Calls.Request.{a_call}
use Rattle.settle.specs.Calls.{shows, balances, LooksAs, targets, words_targeted, edition_told}
use Rattle.settle.specs.Flow.{at_start, FedOn, TakenOn, ToldOn}

-- The buffers are large enough. The one for a line has room for more bytes than a call's line may have, so that a line
-- that is too long can be told from one that is not. The others have room for the numbers of a line, for the words that
-- are lent, and for the longest answer.
pub record Buffers (line numbers words : List ℕ) (places : ℕ) : Type 0 where
  pub longer : most_bytes < length line
  pub numbered : most_numbers ≤ length numbers
  pub lendable : most_listed ≤ length words
  pub writable : most_answer ≤ places

-- What a line does, given the book, the numbers of the line and the words that can be lent. The result is the book
-- after the line, its answer, and the words as the line leaves them.
pub data Gives (b : Book) (a : Asked) (ns ws : List ℕ) : Line → Played → List ℕ → Type 0 where
  opening : (shape : Shape) (n : ℕ) → Gives b a ns ws (Call Name.Open shape n) (opens a ns) ws
  calling : (name : Name) (shape : Shape) (n : ℕ) (k : Asking) → asking_of name a ns ≡ a_call k →
      Gives b a ns ws (Call name shape n) (after_call b a k) (words_after b a k ws)
  showing : (shape : Shape) (n : ℕ) → Gives b a ns ws (Call Name.Status shape n) (played_with b (shows b a)) ws
  balancing : (shape : Shape) (n : ℕ) → Gives b a ns ws (Call Name.Account shape n) (played_with b (balances b a)) ws
  looking : (shape : Shape) (n : ℕ) (answer : Answer) → LooksAs b a answer →
      Gives b a ns ws (Call Name.Look shape n) (played_with b answer) ws
  targeting : (shape : Shape) (n : ℕ) →
      Gives b a ns ws (Call Name.Target shape n) (played_with b (targets a)) (words_targeted a ws)
  ruling : (shape : Shape) (n : ℕ) → Gives b a ns ws (Call Name.Rules shape n) (played_with b edition_told) ws
  passing : Gives b a ns ws Comment (played_with b nothing) ws
  objecting : Gives b a ns ws NoCall (played_with b no_call) ws

-- What the program holds between two turns: the book, how far the input has come, the buffers, how many places the
-- output has, and the answers in it that are not written yet.
pub record Held : Type 0 where
  pub book : Book
  pub flow : Flow
  pub part : List ℕ
  pub line : List ℕ
  pub numbers : List ℕ
  pub words : List ℕ
  pub places : ℕ
  pub out : List ℕ

-- A turn, which only happens while the run goes on. More is read if need be, bytes of the current line are taken, and
-- if the line has ended, what it asks is played and answered.
pub record Turn (h after : Held) : Type 0 where
  pub going : h.flow.course ≡ Going
  pub fed : Flow
  pub waiting : List ℕ
  pub feeds : FedOn h.flow h.places h.out h.part after.part fed waiting
  pub taken : Taken
  pub takes : TakenOn fed after.part h.line after.line taken
  pub asked : Asked
  pub asking : asked ≡ asks taken after.line h.numbers
  pub noting : after.numbers ≡ noted taken after.line h.numbers
  pub answer : Answer
  pub gives : Gives h.book asked after.numbers h.words asked.line (played_with after.book answer) after.words
  pub tells : ToldOn fed taken (answer_text answer taken.feed.ended after.words) h.places waiting after.out after.flow
  pub same : after.places ≡ h.places

-- what the program holds before the first turn, with these contents of the buffers, and with this many places for answers
abbrev pub begins : List ℕ → List ℕ → List ℕ → List ℕ → ℕ → Held
begins part line numbers words places = record {
  book = at_first.book;
  flow = at_start;
  part = part;
  line = line;
  numbers = numbers;
  words = words;
  places = places;
  out = [];
}

-- what the program holds after this number of turns
pub data Reached (first : Held) : ℕ → Held → Type 0 where
  start : Reached first 0 first
  turn : {n : ℕ} {h after : Held} → Reached first n h → Turn h after → Reached first (suc n) after

-- the most turns of a run: the largest number of 64 bits
abbrev pub most_turns : ℕ
most_turns = 18_446_744_073_709_551_615
