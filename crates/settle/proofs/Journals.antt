-- The program and the theorem on whole journals. The lines since the latest open say an Open and a list of calls. They lead
-- to the book that the program holds, so what is promised of whole journals holds for it.
use Prim.Native.Nat.{ℕ, ◌≤◌}
use native.Mathlib.Omega.{arith}
use mathlib.Core.Path.{◌≡◌, refl, ap, ◌∙◌}
use mathlib.Core.Bool.{Bool, true, false}
use mathlib.Core.List.{List, ◌∷◌, map}
use lib.ListN.{length, take}
use lib.Seq.{length-sets}
use Rattle.basics.specs.Choice.{pick}
use Rattle.basics.specs.Refusals.{answer}
use Rattle.basics.proofs.Cases.{pick_case}
use Rattle.book.specs.declared.Book.{Book}
use Rattle.book.specs.Open.{refused_book, open_refusals, opened}
use Rattle.reading.specs.declared.Line.{Line}
use Rattle.reading.specs.Calls.{most_numbers}
use Rattle.reading.specs.Lines.{Meaning, meaning_of, numbers_read}
use Rattle.journal.specs.Played.{outcome_of}
use Rattle.journal.proofs.Demand3.{Promise}
use Rattle.journal.proofs.Theorem.{demand_3}
use Rattle.lines.specs.Input.{ends, size}
use Rattle.settle.specs.declared.calls.Asked.{Asked}
use Rattle.settle.specs.declared.calls.Played.{Played}
use Rattle.settle.specs.Asked.{noted}
use Rattle.settle.specs.Calls.{opened_with, refused_opening, Request}
use Rattle.settle.specs.Calls.Request.{neither}
use Rattle.settle.specs.Turns.{Buffers, Gives, Held, Turn, begins, Reached}
use Rattle.settle.specs.Turns.Gives.{opening, calling, showing, balancing, looking, targeting, ruling, passing, objecting}
use Rattle.settle.specs.Turns.Reached.{start, turn}
use Rattle.settle.specs.Read.{played_in}
use Rattle.settle.specs.Journal.{Journal, request_of, with_request, journal_of, run_of}
use Rattle.settle.proofs.Requests.{request_by, request_said}

-- if a journal leads to the book before a line, the journal with the line leads to the book after it
line_leads : {b : Book} {a : Asked} {ns ws : List ℕ} {l : Line} {p : Played} {after : List ℕ}
    → Gives b a ns ws l p after → (j : Journal) → b ≡ (run_of j).book → p.book ≡ (run_of (with_request (request_by l a ns) j)).book
unfolding with_request
line_leads (opening shape n) j e = refl
line_leads (calling name shape n k h) j e = rw h (ap (λ (x : Book). (outcome_of x k.call).book) e)
line_leads (showing shape n) j e = e
line_leads (balancing shape n) j e = e
line_leads (looking shape n answer h) j e = e
line_leads (targeting shape n) j e = e
line_leads (ruling shape n) j e = e
line_leads passing j e = e
line_leads objecting j e = e

-- the buffer for numbers keeps its length
numbers_kept : {first h : Held} {n : ℕ} → Reached first n h → length h.numbers ≡ length first.numbers
unfolding noted
numbers_kept start = refl
numbers_kept (turn {h = h} {after} r t) =
    ap length t.noting
    ∙ pick_case (λ (ns : List ℕ). length ns ≡ length h.numbers) (ends t.taken) _ _ (λ e. length-sets h.numbers 0 (numbers_read (take (size t.taken) after.line))) (λ e. refl)
    ∙ numbers_kept r

-- what the lines that were played say
abbrev said_in : {first h : Held} {n : ℕ} → Reached first n h → List Meaning
said_in r = map meaning_of (played_in r)

-- after a turn the journal of the lines has what the line of the turn asks for, if this line has ended
journal_grows : {first h after : Held} {n : ℕ} (r : Reached first n h) (t : Turn h after) → most_numbers ≤ length h.numbers
    → with_request (request_by t.asked.line t.asked after.numbers) (journal_of (said_in r)) ≡ journal_of (said_in (turn r t))
unfolding played_in journal_of with_request
journal_grows {h = h} {after} r t room =
    let asks : request_by t.asked.line t.asked after.numbers ≡ pick (ends t.taken) (request_of (meaning_of line)) neither =
    rw (t.asking, t.noting) (request_said t.taken after.line h.numbers room) in
    ap (λ (q : Request). with_request q (journal_of (said_in r))) asks ∙ by (ends t.taken)
  where
    line : List ℕ
    line = take (size t.taken) after.line

    by : (ended : Bool)
        → with_request (pick ended (request_of (meaning_of line)) neither) (journal_of (said_in r))
        ≡ journal_of (map meaning_of (pick ended (line ∷ played_in r) (played_in r)))
    by true = refl
    by false = refl

-- so the journal of the lines that were played leads to the book that the program holds
held_leads : {part line numbers words : List ℕ} {places : ℕ} {h : Held} {n : ℕ}
    (r : Reached (begins part line numbers words places) n h) → most_numbers ≤ length numbers
    → h.book ≡ (run_of (journal_of (said_in r))).book
unfolding played_in journal_of
held_leads start room = refl
held_leads (turn r t) room =
    line_leads t.gives (journal_of (said_in r)) (held_leads r room)
    ∙ ap (λ (j : Journal). (run_of j).book) (journal_grows r t (omega (arith, numbers_kept r)))

-- The Open of the journal before the first open is refused, and it returns the book that every refused Open returns.
pub first_refused : opened_with refused_opening ≡ record { answer = 1; book = refused_book }
unfolding opened open_refusals answer
first_refused = refl

-- The main law of this module. The lines that were played make a journal: the Open and the calls since the latest open. The
-- book that the program holds is the one to which this journal leads, and what is promised of whole journals holds of just
-- this run.
pub held_promised : {part line numbers words : List ℕ} {places : ℕ} {h : Held} {n : ℕ}
    (r : Reached (begins part line numbers words places) n h) → Buffers line numbers words places
    → let s = run_of (journal_of (map meaning_of (played_in r))) in (h.book ≡ s.book) × Promise s
held_promised r buffers =
    let j = journal_of (said_in r) in
    (held_leads r buffers.numbered, (demand_3 {M = Type 0}).whole (run_of j) ((demand_3 {M = Type 0}).each j.opening j.calls))
