-- What a line that asks for a call of a journal does: the book, the answer and the words are those that the rules give for
-- this call.
use Prim.Native.Nat.{ℕ}
use native.Mathlib.Omega.{arith}
use mathlib.Core.Path.{◌≡◌, refl, sym, subst, ap, ◌∙◌}
use mathlib.Core.List.{List, [], ◌∷◌, ◌++◌}
use lib.ListN.{drop, length-replicate}
use Rattle.book.specs.declared.Book.{Book}
use Rattle.book.specs.Instructing.{withdraw}
use Rattle.book.specs.Close.{close, close_words}
use Rattle.book.specs.Month.{month, month_words}
use Rattle.reading.specs.declared.Name.{Name}
use Rattle.reading.specs.declared.Shape.{Shape}
use Rattle.reading.specs.declared.Line.{Line}
use Rattle.answers.specs.Told.{numbers_told, words_told}
use Rattle.journal.specs.Calls.{Opening}
use Rattle.settle.specs.declared.calls.Asked.{Asked}
use Rattle.settle.specs.declared.calls.Played.{Played}
use Rattle.settle.specs.Calls.{played_with, list_in, lent_to, Asking, asking_of, answer_by, words_by, after_close, after_call, words_after}
use Rattle.settle.specs.Calls.Request.{an_open, a_call, neither}
use Rattle.settle.specs.Turns.{Gives}
use Rattle.settle.specs.Turns.Gives.{opening, calling, showing, balancing, looking, targeting, ruling, passing, objecting}

-- a line with the same name asks for the same call
asked_too : (a : Asked) (ns : List ℕ) {name other : Name} {k : Asking} → other ≡ name → asking_of name a ns ≡ a_call k
    → asking_of other a ns ≡ a_call k
asked_too a ns {k = k} e h = subst (λ (x : Name). asking_of x a ns ≡ a_call k) (sym e) h

-- an Open is no call, and neither is a line that is neither of the two
open_no_call : {A : Type 0} {o : Opening} {k : Asking} → an_open o ≡ a_call k → A
open_no_call e = absurd (let z : ◌≡◌ {A = ℕ} 0 1 = cc in omega arith)

neither_no_call : {A : Type 0} {k : Asking} → neither ≡ a_call k → A
neither_no_call e = absurd (let z : ◌≡◌ {A = ℕ} 0 1 = cc in omega arith)

-- whatever a line does that asks for a call, it does what the rules give for the call
pub asked_as : {b : Book} {a : Asked} {ns ws after : List ℕ} {l : Line} {p : Played} {name : Name} {shape : Shape} {n : ℕ} {k : Asking}
    → Gives b a ns ws l p after → l ≡ Line.Call name shape n → asking_of name a ns ≡ a_call k
    → (p ≡ after_call b a k) × (after ≡ words_after b a k ws)
asked_as {a = a} {ns = ns} {name = name} (opening s m) e h = let named : Name.Open ≡ name = cc in open_no_call (asked_too a ns named h)
asked_as {b} {a} {ns} {ws} {name = name} {k = k} (calling m s j i f) e h =
    let named : m ≡ name = cc in
    let too = asked_too a ns named h in
    let same : i ≡ k = cc in
    (ap (after_call b a) same, ap (λ (x : Asking). words_after b a x ws) same)
asked_as {a = a} {ns = ns} {name = name} (showing s m) e h = let named : Name.Status ≡ name = cc in neither_no_call (asked_too a ns named h)
asked_as {a = a} {ns = ns} {name = name} (balancing s m) e h = let named : Name.Account ≡ name = cc in neither_no_call (asked_too a ns named h)
asked_as {a = a} {ns = ns} {name = name} (looking s m answer g) e h = let named : Name.Look ≡ name = cc in neither_no_call (asked_too a ns named h)
asked_as {a = a} {ns = ns} {name = name} (targeting s m) e h = let named : Name.Target ≡ name = cc in neither_no_call (asked_too a ns named h)
asked_as {a = a} {ns = ns} {name = name} (ruling s m) e h = let named : Name.Rules ≡ name = cc in neither_no_call (asked_too a ns named h)
asked_as passing e h = absurd (let z : ◌≡◌ {A = ℕ} 0 1 = cc in omega arith)
asked_as objecting e h = absurd (let z : ◌≡◌ {A = ℕ} 0 1 = cc in omega arith)

module _ (b : Book) (a : Asked) (ns ws : List ℕ) (l : Line) (p : Played) (after : List ℕ) (shape : Shape) (n : ℕ)
    (gives : Gives b a ns ws l p after) where
  -- a withdraw: the book and the answer number of a Withdraw, and the words as they were
  pub withdraws : l ≡ Line.Call Name.Withdraw shape n
      → (p ≡ played_with (withdraw b a.first a.second).book (numbers_told ((withdraw b a.first a.second).answer ∷ [])))
      × (after ≡ ws)
  unfolding answer_by words_by
  withdraws e = asked_as gives e refl

  -- a close: the book, the answer number and the lines of a Close, in the words that it was lent
  pub closes : l ≡ Line.Call Name.Close shape n
      → (p ≡ after_close (close b a.first a.lent) a.lent a.fill)
      × (after ≡ close_words b a.first (lent_to a) ++ drop a.lent ws)
  unfolding answer_by words_by
  closes e =
      let is = asked_as gives e refl in (
        is.0
            ∙ ap (λ (k : ℕ). after_close (close b a.first k) a.lent a.fill)
            (length-replicate a.lent a.fill),
        is.1,
      )

  -- a month: the book and the answer number of a Month, with the payouts in the words that it was lent
  pub months : l ≡ Line.Call Name.Month shape n
      → (p ≡ played_with (month b (list_in a ns) a.lent).book (words_told ((month b (list_in a ns) a.lent).answer ∷ []) a.lent))
      × (after ≡ month_words b (list_in a ns) (lent_to a) ++ drop a.lent ws)
  unfolding answer_by words_by
  months e =
      let is = asked_as gives e refl in (
        is.0
            ∙ ap (λ (k : ℕ). let r = month b (list_in a ns) k in played_with r.book (words_told (r.answer ∷ []) a.lent))
            (length-replicate a.lent a.fill),
        is.1,
      )
