-- The lines that are taken are the lines of the text, whatever the parts in which it is read.
use Prim.Native.Nat.{ℕ, suc, ◌+◌, ◌-◌, ◌≤◌, ◌<◌, min}
use native.Mathlib.Omega.{arith}
use mathlib.Core.Path.{◌≡◌, refl, sym, ap, ap₂, ◌∙◌}
use mathlib.Core.Bool.{Bool, true, false}
use mathlib.Core.List.{List, [], ◌∷◌, ◌++◌, map, append_assoc, append-nil}
use lib.Dec.{eqb, ltb}
use lib.ListN.{length, take, drop, length-append, length-take, length-drop}
use lib.Seq.{sets, sets-eq, take_all, length-take-le, take-append-add, take_at, take-nil}
use borrow.Author.Tests.{ltb-true, ltb-false}
use Rattle.basics.specs.Choice.{pick}
use Rattle.basics.specs.Lists.{between, up_to}
use Rattle.basics.proofs.Cases.{pick_case}
use Rattle.basics.proofs.Fronts.{take_again, between_none, between_behind, up_all, up_split}
use Rattle.basics.proofs.Stores.{sets_cut}
use Rattle.writing.specs.Answers.{line_feed}
use Rattle.lines.specs.declared.Feed.{Feed}
use Rattle.lines.specs.declared.Taken.{Taken}
use Rattle.lines.specs.Input.{up_to_line_feed, ahead, ended_at, goes_on, held_with, taken_of}
use Rattle.lines.specs.Text.{Cut, with_byte, with_bytes, cut_to, unread, taken_bytes, cut_with}

-- a text so far, given its lines and the bytes of the current line
abbrev cut_as : List (List ℕ) → List ℕ → Cut
cut_as ended rest = record { ended = ended; rest = rest }

-- adding bytes and then others is the same as adding them all at once
pub with_append : (c : Cut) (xs ys : List ℕ) → with_bytes c (xs ++ ys) ≡ with_bytes (with_bytes c xs) ys
unfolding with_bytes
with_append c [] ys = refl
with_append c (x ∷ xs) ys = with_append (with_byte c x) xs ys

-- ---- a text of which each line is held in n places
-- the text with one more byte
abbrev held_byte : ℕ → Cut → ℕ → Cut
held_byte n c b =
    pick (eqb b line_feed) (record { ended = c.rest ∷ c.ended; rest = [] })
    (record { ended = c.ended; rest = take n (c.rest ++ b ∷ []) })

-- the text with more bytes
held_bytes : ℕ → Cut → List ℕ → Cut
held_bytes n c [] = c
held_bytes n c (b ∷ bs) = held_bytes n (held_byte n c b) bs

-- adding bytes and then others is the same as adding them all at once
held_append : (n : ℕ) (c : Cut) (xs ys : List ℕ) → held_bytes n c (xs ++ ys) ≡ held_bytes n (held_bytes n c xs) ys
unfolding held_bytes
held_append n c [] ys = refl
held_append n c (x ∷ xs) ys = held_append n (held_byte n c x) xs ys

-- it makes no difference whether lines are cut to n places while bytes are added or afterwards
held_cuts : (n : ℕ) (c : Cut) (bs : List ℕ) → held_bytes n (cut_to n c) bs ≡ cut_to n (with_bytes c bs)
unfolding held_bytes with_bytes with_byte
held_cuts n c [] = refl
held_cuts n c (b ∷ bs) = ap (λ (x : Cut). held_bytes n x bs) (by (eqb b line_feed)) ∙ held_cuts n (with_byte c b) bs
  where
    by : (t : Bool)
        → pick t (record { ended = take n c.rest ∷ map (take n) c.ended; rest = [] })
        (record { ended = map (take n) c.ended; rest = take n (take n c.rest ++ b ∷ []) })
        ≡ cut_to n (pick t (record { ended = c.rest ∷ c.ended; rest = [] }) (record { ended = c.ended; rest = c.rest ++ b ∷ [] }))
    by true = ap (cut_as (take n c.rest ∷ map (take n) c.ended)) (sym (take-nil n))
    by false = ap (cut_as (map (take n) c.ended)) (take_again n c.rest (b ∷ []))

-- the current line stays the same if no bytes are added to it
with_none : (n : ℕ) (ended : List (List ℕ)) (rest : List ℕ) → length rest ≤ n → cut_as ended rest ≡ cut_as ended (take n (rest ++ []))
with_none n ended rest h = ap (cut_as ended) (sym (ap (take n) (append-nil rest) ∙ take_all n rest h))

-- a line feed ends the current line
with_feed : (n : ℕ) (ended : List (List ℕ)) (rest : List ℕ) → held_byte n (cut_as ended rest) line_feed ≡ cut_as (rest ∷ ended) []
with_feed n ended rest = refl

-- any other byte belongs to the current line
with_other : (n : ℕ) (ended : List (List ℕ)) (rest : List ℕ) (b : ℕ) → eqb b line_feed ≡ false
    → held_byte n (cut_as ended rest) b ≡ cut_as ended (take n (rest ++ b ∷ []))
with_other n ended rest b e = rw e

-- the bytes up to a line feed all belong to the current line
with_line : (n : ℕ) (ended : List (List ℕ)) (rest xs : List ℕ) → length rest ≤ n
    → held_bytes n (cut_as ended rest) (up_to_line_feed xs) ≡ cut_as ended (take n (rest ++ up_to_line_feed xs))
unfolding held_bytes up_to
with_line n ended rest [] h = with_none n ended rest h
with_line n ended rest (b ∷ xs) h =
    by (eqb b line_feed) refl
    (with_line n ended (take n (rest ++ b ∷ [])) xs (omega (arith, length-take n (rest ++ b ∷ [])))
    ∙ ap (cut_as ended) (take_again n (rest ++ b ∷ []) (up_to_line_feed xs) ∙ ap (take n) (append_assoc rest (b ∷ []) (up_to_line_feed xs))))
  where
    by : (t : Bool) → eqb b line_feed ≡ t
        → held_bytes n (cut_as ended (take n (rest ++ b ∷ []))) (up_to_line_feed xs) ≡ cut_as ended (take n (rest ++ b ∷ up_to_line_feed xs))
        → held_bytes n (cut_as ended rest) (pick t [] (b ∷ up_to_line_feed xs)) ≡ cut_as ended (take n (rest ++ pick t [] (b ∷ up_to_line_feed xs)))
    by true e more = with_none n ended rest h
    by false e more = ap (λ (c : Cut). held_bytes n c (up_to_line_feed xs)) (with_other n ended rest b e) ∙ more

-- ---- how bytes are held in the line's places
module _ (line rest bs : List ℕ) (within : length rest ≤ length line) (front : take (length rest) line ≡ rest) where
  -- the number of places that are still free
  abbrev room : ℕ
  room = length line - length rest

  -- what is held after the bytes were added: as many of them as fit into the free places
  held_all : take (length line) (rest ++ bs) ≡ rest ++ take room bs
  held_all =
      let e : length line ≡ length rest + room = omega arith in
      ap (λ (k : ℕ). take k (rest ++ bs)) e ∙ take-append-add rest bs room

  -- how many bytes are held then
  pub held_length : min (length line) (length rest + length bs) ≡ length (take (length line) (rest ++ bs))
  held_length = omega (arith, length-take (length line) (rest ++ bs), length-append rest bs)

  -- the bytes that are held stand in the line's first places
  pub held_front : take (length (take (length line) (rest ++ bs))) (sets line (length rest) bs) ≡ take (length line) (rest ++ bs)
  held_front =
      let few : length rest + length (take room bs) ≤ length line = omega (arith, length-take room bs) in
      let stored : sets line (length rest) bs ≡ (rest ++ take room bs) ++ drop (length rest + length (take room bs)) line =
      sym (sets_cut line (length rest) room bs (omega arith))
      ∙ sets-eq (take room bs) line (length rest) few
      ∙ ap (λ (l : List ℕ). l ++ take room bs ++ drop (length rest + length (take room bs)) line) front in
      let size : length (rest ++ take room bs) ≡ length (take (length line) (rest ++ bs)) = ap length (sym held_all) in
      ap (take (length (take (length line) (rest ++ bs)))) stored
      ∙ take_at (rest ++ take room bs) (drop (length rest + length (take room bs)) line) _ size
      ∙ sym held_all

-- ---- bytes are taken once
module _ (f : Feed) (part line : List ℕ) (ended : List (List ℕ)) (h : f.held ≤ length line) (l : f.to ≤ length part) where
  -- the bytes that are held
  abbrev rest : List ℕ
  rest = take f.held line

  held_size : length rest ≡ f.held
  held_size = length-take-le f.held line h

  -- what is held after the bytes ahead were added
  held_is : take (held_with (length line) f part) (sets line f.held (ahead f part)) ≡ take (length line) (rest ++ ahead f part)
  unfolding held_with
  held_is =
      let bs : List ℕ = ahead f part in
      let few : length rest ≤ length line = omega (arith, held_size) in
      let front : take (length rest) line ≡ rest = ap (λ (k : ℕ). take k line) held_size in
      ap (λ (k : ℕ). take (min (length line) (k + length bs)) (sets line k bs)) (sym held_size)
      ∙ ap (λ (k : ℕ). take k (sets line (length rest) bs)) (held_length line rest bs few front)
      ∙ held_front line rest bs few front

  -- The bytes that were read are those that are taken and those that are left, and the text with the taken bytes is the
  -- one that is held.
  abbrev Cuts : Taken → Type 0
  Cuts t =
      (unread f part ≡ taken_bytes f part t ++ unread t.feed part)
      × (held_bytes (length line) (cut_as ended rest) (taken_bytes f part t) ≡ cut_with ended t (sets line f.held (ahead f part)))

  -- no bytes are left at the end of those that were read
  none_left : between f.to f.to part ≡ []
  none_left = between_none part f.to f.to (omega arith)

  -- how many bytes were read and not yet taken
  unread_size : length (unread f part) ≡ f.to - f.from
  unread_size = length-take-le (f.to - f.from) (drop f.from part) (omega (arith, l, length-drop f.from part))

  -- the bytes ahead belong to the current line
  cuts_ahead : held_bytes (length line) (cut_as ended rest) (ahead f part) ≡ cut_as ended (take (length line) (rest ++ ahead f part))
  unfolding ahead
  cuts_ahead = with_line (length line) ended rest (unread f part) (omega (arith, held_size))

  -- if there is no line feed, the bytes ahead are all that were read
  ahead_all : length (unread f part) ≤ length (ahead f part) → ahead f part ≡ unread f part
  unfolding ahead
  ahead_all g = up_all line_feed (unread f part) g

  -- if there is one, it follows the bytes ahead, and after it come the bytes that are taken next
  ahead_split : f.from + length (ahead f part) < f.to
      → unread f part ≡ ahead f part ++ line_feed ∷ between (f.from + length (ahead f part) + 1) f.to part
  unfolding ahead
  ahead_split g =
      let n : ℕ = length (up_to_line_feed (unread f part)) in
      let e : f.from + suc n ≡ f.from + n + 1 = omega arith in
      up_split line_feed (unread f part) (omega (arith, unread_size))
      ∙ ap (λ (v : List ℕ). up_to_line_feed (unread f part) ++ line_feed ∷ v)
      (between_behind f.from f.to (suc n) part (omega arith) ∙ ap (λ (k : ℕ). between k f.to part) e)

  -- `Cuts` holds if the current line ends
  cuts_ended : ltb (f.from + length (ahead f part)) f.to ≡ true
      → Cuts (ended_at (f.from + length (ahead f part)) (held_with (length line) f part) f)
  unfolding ended_at held_bytes
  cuts_ended e =
      let n : ℕ = length line in
      let a : List ℕ = ahead f part in
      let v : List ℕ = between (f.from + length a + 1) f.to part in (
        ahead_split (ltb-true (f.from + length a) f.to e)
            ∙ sym (append_assoc a (line_feed ∷ []) v),
        held_append n (cut_as ended rest) a (line_feed ∷ [])
            ∙ ap (λ (c : Cut). held_byte n c line_feed) cuts_ahead
            ∙ ap (λ (x : List ℕ). cut_as (x ∷ ended) []) (sym held_is),
      )

  -- `Cuts` holds if the current line goes on
  cuts_on : ltb (f.from + length (ahead f part)) f.to ≡ false → Cuts (goes_on (held_with (length line) f part) f)
  unfolding goes_on
  cuts_on e =
      let far = ltb-false (f.from + length (ahead f part)) f.to e in
      let all : ahead f part ≡ unread f part = ahead_all (omega (arith, far, unread_size)) in
      let same : ahead f part ++ [] ≡ ahead f part = append-nil (ahead f part) in (
        sym all
            ∙ sym (ap₂ ◌++◌ same none_left ∙ append-nil (ahead f part)),
        ap (held_bytes (length line) (cut_as ended rest)) same ∙ cuts_ahead ∙ ap (cut_as ended) (sym held_is),
      )

  -- so `Cuts` holds of what is taken
  taken_cuts : Cuts (taken_of f part (length line))
  unfolding taken_of
  taken_cuts = pick_case Cuts (ltb (f.from + length (ahead f part)) f.to) _ _ cuts_ended cuts_on

-- The bytes that are taken are the next ones of the text, and the lines with them are the lines of the text.
pub took_cuts : (f : Feed) (part line after : List ℕ) (t : Taken) (c : Cut) → f.held ≤ length line → f.to ≤ length part
    → t ≡ taken_of f part (length line) → after ≡ sets line f.held (ahead f part)
    → take f.held line ≡ take (length line) c.rest
    → (unread f part ≡ taken_bytes f part t ++ unread t.feed part)
    × (cut_with (map (take (length line)) c.ended) t after ≡ cut_to (length line) (with_bytes c (taken_bytes f part t)))
took_cuts f part line after t c h l e g r =
    let cuts = taken_cuts f part line (map (take (length line)) c.ended) h l in
    rw (e, g) (
      cuts.0,
      sym cuts.1
          ∙ ap (λ (x : List ℕ). held_bytes (length line) (cut_as (map (take (length line)) c.ended) x) (taken_bytes f part (taken_of f part (length line)))) r
          ∙ held_cuts (length line) c (taken_bytes f part (taken_of f part (length line))),
    )
