-- What a line asks for depends only on what it says. The numbers that earlier lines left in the buffer after those of
-- the line do not matter.
use Prim.Native.Nat.{ℕ, ◌+◌, ◌-◌, ◌≤◌, ◌<◌}
use native.Mathlib.Omega.{arith}
use mathlib.Core.Path.{◌≡◌, refl, subst, ap, ◌∙◌}
use mathlib.Core.Bool.{Bool, true, false}
use mathlib.Core.List.{List}
use Rattle.std.specs.Prelude.{Option, None, Some}
use lib.Dec.{ltb}
use lib.ListN.{length, get_or, take, drop}
use lib.Seq.{sets, get_or-take, take-take}
use borrow.Author.Tests.{eqb-true, ltb-true}
use Rattle.basics.specs.Choice.{pick}
use Rattle.basics.specs.Lists.{between, Every}
use Rattle.basics.specs.Lists.Every.{nobody, also}
use Rattle.basics.proofs.Fronts.{between_behind}
use Rattle.lines.specs.declared.Taken.{Taken}
use Rattle.reading.specs.declared.Name.{Name}
use Rattle.reading.specs.declared.Shape.{Shape}
use Rattle.reading.specs.declared.Line.{Line}
use Rattle.reading.specs.declared.Line.TheVariants.{Call, Comment, NoCall}
use Rattle.reading.specs.Words.{first_word, further_words}
use Rattle.reading.specs.Calls.{Naming, most_numbers, same_word, namings, found, naming_of, shape_right, numbers_of}
use Rattle.reading.specs.Lines.{Meaning, is_comment, most_bytes, call_with, meaning_of, line_of, numbers_read, Understood}
use Rattle.reading.specs.Lines.Meaning.{call, comment, no_call}
use Rattle.reading.proofs.Shapes.{shape_plain}
use Rattle.reading.proofs.Arguments.{call_arguments, days_listed, lent_listed, amounts_listed}
use Rattle.calendar.specs.Closed.{day}
use Rattle.journal.specs.Calls as journal
use Rattle.lines.specs.Input.{ends, size}
use Rattle.settle.specs.declared.calls.Asked.{Asked}
use Rattle.settle.specs.Asked.{asked_call, asked_of, asks, noted}
use Rattle.settle.specs.Calls.{Request, plain, asking_of}
use Rattle.settle.specs.Calls.Request.{neither}
use Rattle.settle.specs.Journal.{request_of}

-- ---- the entries of the table of calls
-- what holds of every entry holds of the one that is found
found_every : (P : Naming → Type 0) (w : List ℕ) {xs : List Naming} → Every P xs → (x : Naming) → found w xs ≡ Some x → P x
unfolding found
found_every P w nobody x e = absurd (let z : ◌≡◌ {A = ℕ} 0 1 = cc in omega arith)
found_every P w (also {x = y} {xs = ys} p ps) x e = by (same_word w y.word) e (found_every P w ps x)
  where
    by : (t : Bool) → pick t (Some y) (found w ys) ≡ Some x → (found w ys ≡ Some x → P x) → P x
    by true f rest = let same : y ≡ x = cc in subst P same p
    by false f rest = rest f

-- what holds of every entry holds of the name and the shape of a call
call_every : (P : Name → Shape → Type 0) → Every (λ x. P x.name x.shape) namings → (line : List ℕ) (name : Name) (shape : Shape) (ns : List ℕ)
    → meaning_of line ≡ call name shape ns → P name shape
unfolding meaning_of call_with naming_of
call_every P every line name shape ns e =
    by (is_comment line) (ltb most_bytes (length line)) (naming_of (first_word line)) refl (numbers_of (further_words line)) e
  where
    shaped : (x : Naming) (ms : List ℕ) (t : Bool) → P x.name x.shape → pick t (call x.name x.shape ms) no_call ≡ call name shape ns
        → P name shape
    shaped x ms true p f =
        let names : x.name ≡ name = cc in
        let shapes : x.shape ≡ shape = cc in
        subst (P name) shapes (subst (λ (n : Name). P n x.shape) names p)
    shaped x ms false p f = absurd (let z : ◌≡◌ {A = ℕ} 0 1 = cc in omega arith)

    by : (t u : Bool) (o : Option Naming) → naming_of (first_word line) ≡ o → (q : Option (List ℕ))
        → pick t comment (pick u no_call (call_with o q)) ≡ call name shape ns → P name shape
    by true u o f q g = absurd (let z : ◌≡◌ {A = ℕ} 0 1 = cc in omega arith)
    by false true o f q g = absurd (let z : ◌≡◌ {A = ℕ} 0 1 = cc in omega arith)
    by false false None f q g = absurd (let z : ◌≡◌ {A = ℕ} 0 1 = cc in omega arith)
    by false false (Some x) f None g = absurd (let z : ◌≡◌ {A = ℕ} 0 1 = cc in omega arith)
    by false false (Some x) f (Some ms) g =
        shaped x ms (shape_right x.shape ms) (found_every (λ y. P y.name y.shape) (first_word line) every x f) g

-- ---- the numbers of a line are the first ones of the buffer
module _ (places : List ℕ) (count : ℕ) (within : count ≤ length places) where
  -- the numbers of the line
  abbrev own : List ℕ
  own = take count places

  -- each of them, and each list among them, stands in the buffer at the same place
  number : (i : ℕ) → i < count → get_or own i 0 ≡ get_or places i 0
  number i h = get_or-take count places i 0 h

  list : (from to : ℕ) → from ≤ count → to ≤ count → between from to own ≡ between from to places
  list from to f t =
      let all : count - 0 ≡ count = omega arith in
      let here : 0 + from ≡ from = omega arith in
      let behind : drop from own ≡ between from count places = rw (all, here) at (between_behind 0 count from places (omega arith)) in
      ap (take (to - from)) behind ∙ take-take (to - from) (count - from) (drop from places) (omega arith)

  -- if the line has the shape of k numbers, these are the first k
  plains : (k : ℕ) → shape_right (Shape.Plain k) own ≡ true → (i : ℕ) → ltb i k ≡ true → get_or own i 0 ≡ get_or places i 0
  plains k s i e = number i (omega (arith, eqb-true count k (shape_plain places count within k ∙ s), ltb-true i k e))

  -- a line with this name and this shape asks for the same with all numbers of the buffer and with its own alone
  abbrev Same : Name → Shape → Type 0
  Same name shape = shape_right shape own ≡ true
      → asking_of name (asked_call name shape count places) places ≡ asking_of name (asked_call name shape count own) own

  -- a withdraw, a cancel, a deliver and a rate have two numbers each
  same_two : (make : ℕ → ℕ → journal.Call) → shape_right (Shape.Plain 2) own ≡ true
      → plain (make (get_or places 0 0) (get_or places 1 0)) ≡ plain (make (get_or own 0 0) (get_or own 1 0))
  same_two make s = let n = plains 2 s in rw (n 0 refl, n 1 refl)

  same_open : Same Name.Open Shape.Days
  unfolding asked_call
  same_open s =
      let n = (days_listed places count within s).0 in
      rw (number 0 (omega arith), number 1 (omega arith), list 3 count (omega arith) (omega arith))

  same_enter : Same Name.Enter (Shape.Plain 6)
  unfolding asked_call
  same_enter s = let n = plains 6 s in rw (n 0 refl, n 1 refl, n 2 refl, n 3 refl, n 4 refl, n 5 refl)

  same_offer : Same Name.Offer (Shape.Plain 4)
  unfolding asked_call
  same_offer s = let n = plains 4 s in rw (n 0 refl, n 1 refl, n 2 refl, n 3 refl)

  same_close : Same Name.Close (Shape.Lent 1)
  unfolding asked_call
  same_close s =
      let n = (lent_listed places count within 1 s).0 in
      rw (number 0 (omega arith), number (count - 2) (omega arith), number (count - 1) (omega arith))

  same_again : Same Name.Again (Shape.Lent 0)
  unfolding asked_call
  same_again s =
      let n = (lent_listed places count within 0 s).0 in
      rw (number (count - 2) (omega arith), number (count - 1) (omega arith))

  same_month : Same Name.Month Shape.Amounts
  unfolding asked_call
  same_month s =
      let n = (amounts_listed places count within s).0 in
      rw (list 1 (count - 2) (omega arith) (omega arith), number (count - 2) (omega arith), number (count - 1) (omega arith))

  -- this holds of every entry of the table
  same_every : Every (λ x. Same x.name x.shape) namings
  unfolding asked_call
  same_every =
      also same_open
      (also same_enter
      (also (same_two journal.Call.withdraw)
      (also (same_two journal.Call.cancel)
      (also (same_two journal.Call.deliver)
      (also same_offer
      (also (same_two (λ (start rate : ℕ). journal.Call.rate (day start) rate))
      (also same_close
      (also same_again
      (also same_month
      (also (λ s. refl)
      (also (λ s. refl)
      (also (λ s. refl)
      (also (λ s. refl)
      (also (λ s. refl) nobody))))))))))))))

-- ---- lines
-- what a line asks for, by the numbers in the buffer
abbrev pub request_by : Line → Asked → List ℕ → Request
request_by (Call name shape n) a ns = asking_of name a ns
request_by Comment a ns = neither
request_by NoCall a ns = neither

-- what is asked has the line that asks it
asked_by : (l : Line) (ns : List ℕ) → (asked_of l ns).line ≡ l
unfolding asked_of asked_call
asked_by (Call name (Shape.Plain k) n) ns = refl
asked_by (Call name Shape.Days n) ns = refl
asked_by (Call name (Shape.Lent k) n) ns = refl
asked_by (Call name Shape.Amounts n) ns = refl
asked_by Comment ns = refl
asked_by NoCall ns = refl

-- if the numbers of a line stand first in the buffer, the line asks for what it says
line_request : (line places after : List ℕ) → most_numbers ≤ length places → Understood line places after (line_of (meaning_of line))
    → request_by (line_of (meaning_of line)) (asked_of (line_of (meaning_of line)) after) after ≡ request_of (meaning_of line)
unfolding line_of asked_of request_of
line_request line places after room u = by (meaning_of line) refl
  where
    by : (m : Meaning) → meaning_of line ≡ m → request_by (line_of m) (asked_of (line_of m) after) after ≡ request_of m
    by comment e = refl
    by no_call e = refl
    by (call name shape ns) e =
        let told : line_of (meaning_of line) ≡ Call name shape (length ns) = ap line_of e in
        let parts = call_arguments line places after name shape (length ns) room told u in
        let said = parts.0 in
        let own_is : take (length ns) after ≡ ns = cc in
        let same = call_every (Same after (length ns) parts.2) (same_every after (length ns) parts.2) line name shape ns e parts.1 in
        same ∙ ap (λ (ms : List ℕ). asking_of name (asked_call name shape (length ns) ms) ms) own_is

-- so a line that has ended asks for what it says, and before it has ended it asks for neither an Open nor a call
pub request_said : (t : Taken) (line ns : List ℕ) → most_numbers ≤ length ns
    → request_by (asks t line ns).line (asks t line ns) (noted t line ns)
    ≡ pick (ends t) (request_of (meaning_of (take (size t) line))) neither
unfolding asks noted
request_said t line ns room = by (ends t) refl
  where
    said : Meaning
    said = meaning_of (take (size t) line)

    after : List ℕ
    after = sets ns 0 (numbers_read (take (size t) line))

    by : (ended : Bool) → ends t ≡ ended
        → request_by (asks t line ns).line (asks t line ns) (noted t line ns) ≡ pick ended (request_of said) neither
    by true e =
        rw e
        (ap (λ (l : Line). request_by l (asked_of (line_of said) after) after) (asked_by (line_of said) after)
        ∙ line_request (take (size t) line) ns after room (record { answer = refl; numbers = refl }))
    by false e = rw e
