-- The end of each call: an answer that equals its definition hands back a valid book.
use mathlib.Core.Path.{◌≡◌, sym, subst}
use Rattle.book.specs.declared.Book.{Book}
use Rattle.book.specs.Book.{Valid}

-- the book of an answer, as the definition has it, is valid
pub answered : {A : Type 0} (book : A → Book) {r s : A} → r ≡ s → Valid (book s) →
    record { value : r ≡ s; valid : Valid (book r) }
answered book e v = record { value = e; valid = subst (λ x. Valid (book x)) (sym e) v }
