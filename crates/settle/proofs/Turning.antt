-- What holds between two turns, and the proof that it still holds after one more turn.
use Prim.Native.Nat.{ℕ, suc, ◌≤◌}
use native.Mathlib.Omega.{arith}
use mathlib.Core.Path.{◌≡◌, sym, subst, ap, ◌∙◌}
use mathlib.Core.Bool.{true}
use mathlib.Core.List.{List, ◌∷◌}
use lib.Dec.{leb}
use lib.ListN.{length}
use borrow.Author.Tests.{leb-true}
use Rattle.book.specs.declared.Book.{Book}
use Rattle.book.specs.Book.{Valid}
use Rattle.lines.specs.declared.Taken.{Taken}
use Rattle.lines.proofs.Bounds.{Within, taken_within}
use Rattle.reading.specs.declared.Line.{Line}
use Rattle.reading.specs.declared.Name.{Name}
use Rattle.reading.specs.declared.Shape.{Shape}
use Rattle.answers.specs.declared.Answer.{Answer}
use Rattle.answers.specs.Text.{Tellable, answer_text}
use Rattle.answers.specs.Told.{numbers_told}
use Rattle.answers.proofs.Tells.{numbers_tells}
use Rattle.journal.specs.Calls.{Call}
use Rattle.journal.specs.Played.{outcome_of}
use Rattle.settle.specs.declared.calls.Asked.{Asked}
use Rattle.settle.specs.declared.calls.Played.{Played}
use Rattle.settle.specs.declared.flow.Course.TheVariants.{Going}
use Rattle.settle.specs.declared.flow.Flow.{Flow}
use Rattle.settle.specs.Asked.{asks, noted}
use Rattle.settle.specs.Calls.{played_with, at_first, plain, asking_of, answer_by, words_by}
use Rattle.settle.specs.Calls.Manner.{by_numbers}
use Rattle.settle.specs.Flow.{FedOn, TakenOn, ToldOn}
use Rattle.settle.specs.Turns.{Buffers, Gives, Held, begins, Reached, most_turns}
use Rattle.settle.specs.Turns.Gives.{calling}
use Rattle.settle.specs.Turns.Reached.{start, turn}
use Rattle.settle.specs.Ending.{Plays}
use Rattle.settle.proofs.Flows.{Kept}

-- What holds after a number of turns. They lead there, the book is valid, and all places are within the buffers.
pub record Stands (first : Held) (turns : ℕ) (h : Held) : Type 0 where
  pub reached : Reached first turns h
  pub valid : Valid h.book
  pub ordered : h.flow.feed.from ≤ h.flow.feed.to
  pub read : h.flow.feed.to ≤ length h.part
  pub held : h.flow.feed.held ≤ length h.line
  pub room : Buffers h.line h.numbers h.words h.places

-- this holds before the first turn
pub standing : (part line numbers words : List ℕ) (places : ℕ) → Valid at_first.book → Buffers line numbers words places
    → Stands (begins part line numbers words places) 0 (begins part line numbers words places)
standing part line numbers words places v b = record {
  reached = start;
  valid = v;
  ordered = omega arith;
  read = omega arith;
  held = omega arith;
  room = b;
}

-- if no turn is to come, the journal was played
pub stopped : {first h : Held} {turns : ℕ} → turns ≤ most_turns → (h.flow.course ≡ Going → turns ≡ most_turns)
    → Stands first turns h → Plays first h
stopped {turns = turns} few ends s = record { turns = turns; reached = s.reached; few = few; ends = ends }

-- a line does what `Gives` says, its book is valid, and its answer can be written
pub record Given (b : Book) (a : Asked) (ns ws : List ℕ) (p : Played) (after : List ℕ) : Type 0 where
  pub gives : Gives b a ns ws a.line p after
  pub valid : Valid p.book
  pub tells : Tellable p.answer after
  pub same : length after ≡ length ws

-- the same, if it is known for an equal line, an equal book and answer, and equal words
pub given_by_lem : {b : Book} {a : Asked} {ns ws : List ℕ} {p : Played} {after : List ℕ} (l : Line) (q : Played) (left : List ℕ)
    → a.line ≡ l → p ≡ q → after ≡ left → Gives b a ns ws l q left → Valid q.book → Tellable q.answer after
    → length after ≡ length ws → Given b a ns ws p after
given_by_lem {b} {a} {ns} {ws} {p} {after} l q left e f g gives valid tells same = record {
  gives = subst (λ (x : Line). Gives b a ns ws x p after) (sym e) (rw (f, g) gives);
  valid = rw f valid;
  tells = rw f tells;
  same = same;
}

-- the line of a call whose name is known
pub call_line : {l : Line} {m name : Name} {shape : Shape} {n : ℕ} → l ≡ Line.Call m shape n → m ≡ name → l ≡ Line.Call name shape n
call_line {shape = shape} {n = n} e f = e ∙ ap (λ (x : Name). Line.Call x shape n) f

-- A call that is answered by numbers. `told` makes the book and the answer from what the call handed back.
pub numbers_given : {R : Type 0} (told : R → Played) {b : Book} {a : Asked} {ns ws : List ℕ} {p : Played} {after : List ℕ}
    {m name : Name} {shape : Shape} {n : ℕ} {c : Call} {r q : R}
    → a.line ≡ Line.Call m shape n → m ≡ name → asking_of name a ns ≡ plain c
    → p ≡ told r → r ≡ q → Valid (told r).book
    → told q ≡ played_with (outcome_of b c).book (numbers_told ((outcome_of b c).answer ∷ (outcome_of b c).results))
    → leb (length (outcome_of b c).results) 6 ≡ true → after ≡ ws → Given b a ns ws p after
unfolding answer_by words_by
numbers_given told {b} {a} {ns} {ws} {p} {after} {m} {name} {shape} {n} {c} line named asks made is valid same few kept =
    given_by_lem (Line.Call name shape n) _ ws (call_line line named) (made ∙ ap told is ∙ same) kept
    (calling name shape n (record { call = c; manner = by_numbers }) asks)
    (subst (λ (x : Played). Valid x.book) (ap told is ∙ same) valid)
    (numbers_tells ((outcome_of b c).answer ∷ (outcome_of b c).results) after (omega (arith, leb-true (length (outcome_of b c).results) 6 few)))
    (ap length kept)

-- a line that leaves the book and the words as they were
pub shown_given : {b : Book} {a : Asked} {ns ws : List ℕ} {p : Played} {after : List ℕ} {l : Line} {answer : Answer}
    → a.line ≡ l → Gives b a ns ws l (played_with b answer) ws → p ≡ played_with b answer → after ≡ ws → Valid b
    → Tellable answer after → Given b a ns ws p after
shown_given line gives is kept valid tells = given_by_lem _ _ _ line is kept gives valid tells (ap length kept)

-- the bytes that are taken lie within the buffers
pub took_within : {f : Flow} {part line after : List ℕ} {t : Taken} → TakenOn f part line after t → Within f.feed (length line) t
took_within {f} {part} {line} took = rw took.took (taken_within f.feed part (length line))

-- what holds between two turns still holds after one more turn
pub turned : {first h after : Held} {turns : ℕ} {fed : Flow} {waiting : List ℕ} {taken : Taken} {asked : Asked} (answer : Answer) → h.flow.course ≡ Going → Stands first turns h
    → FedOn h.flow h.places h.out h.part after.part fed waiting
    → Kept h.flow after.part fed
    → TakenOn fed after.part h.line after.line taken
    → asked ≡ asks taken after.line h.numbers
    → after.numbers ≡ noted taken after.line h.numbers
    → Given h.book asked after.numbers h.words (record { book = after.book; answer = answer }) after.words
    → ToldOn fed taken (answer_text answer taken.feed.ended after.words) h.places waiting after.out after.flow
    → length after.line ≡ length h.line
    → length after.numbers ≡ length h.numbers → after.places ≡ h.places
    → Stands first (suc turns) after
turned {first} {h} {after} {turns} {fed} {waiting} {taken} {asked} answer going s feeds on takes asking noting given tells line numbers same =
    let took = took_within takes in
    let next = tells.next in
    record {
      reached = turn s.reached (record {
        going = going;
        fed = fed;
        waiting = waiting;
        feeds = feeds;
        taken = taken;
        takes = takes;
        asked = asked;
        asking = asking;
        noting = noting;
        answer = answer;
        gives = given.gives;
        tells = tells;
        same = same;
      });
      valid = given.valid;
      ordered = rw next took.ordered;
      read = rw next (omega (arith, took.read, on.within));
      held = rw next (omega (arith, took.held, line));
      room = record {
        longer = omega (arith, s.room.longer, line);
        numbered = omega (arith, s.room.numbered, numbers);
        lendable = omega (arith, s.room.lendable, given.same);
        writable = omega (arith, s.room.writable, same);
      };
    }
