-- Reading: the calls Status, Account and Look.
use Rattle.std.specs.Prelude.{ℕ, ◌+◌, ◌<◌, ◌≡◌, Bool, true, false, ◌&&◌, List, [], ◌∷◌, ltb, eqb, pos, get_or}
use Rattle.basics.specs.Refusals.{Refusal, refuse, answer, outcome}
use Rattle.calendar.specs.declared.Day.{Day}
use Rattle.ledger.specs.declared.Obligation.{Obligation}
use Rattle.ledger.specs.Parts.{no_parts}
use Rattle.ledger.specs.Ledger.{obligation_at, fetched}
use Rattle.book.specs.declared.Book.{Book}
use Rattle.book.specs.declared.Shown.{Shown}
use Rattle.book.specs.declared.Balance.{Balance}
use Rattle.book.specs.declared.Looked.{Looked}
use Rattle.refusals.specs.Calls.{fetch_refusals, fetch_outcome}
use Rattle.book.specs.Book.{today_of}
use Rattle.netting.specs.Accounts.{no_member}

-- A14 and R13, Refusals: the refusals of Status
unfoldable pub status_refusals : Book → ℕ → List Refusal
status_refusals b n = fetch_refusals [] (fetched b.ledger n) (λ o. [])

-- A5, Refusals: what a refused Status returns
abbrev pub status_refused : Book → ℕ → Shown
status_refused b n = record { answer = n; quantity = 0; parts = no_parts; book = b }

-- L1, Reading: a Status that is done shows Q, delivered, bought in, compensated, cancelled and outstanding of o
abbrev pub status_done : Book → Obligation → Shown
status_done b o = record { answer = 0; quantity = o.deal.quantity; parts = o.parts; book = b }

-- G2, Promises; L1 and L5, Reading: what Status returns; the book stays as it was
unfoldable pub status : Book → ℕ → Shown
status b n = fetch_outcome [] (fetched b.ledger n) (λ o. []) (status_done b) (status_refused b)

-- A5, Refusals: what a refused Account returns
abbrev pub account_refused : Book → ℕ → Balance
account_refused b n = record { answer = n; cents = pos 0; book = b }

-- G2, Promises; L2 and L5, Reading; A15 and R1, Refusals: what Account returns; the book stays as it was
unfoldable pub account : Book → ℕ → Balance
account b member =
    outcome (answer (refuse 1 (no_member member) ∷ []))
    (record { answer = 0; cents = get_or b.ledger.accounts member (pos 0); book = b })
    (account_refused b)

-- L3, Reading: an obligation is late if the member sells it, its J was before today and something of it is outstanding
unfoldable pub is_late : Day → ℕ → Obligation → Bool
is_late today member o = eqb o.deal.seller member && (ltb o.deal.day.0 today.0 && ltb 0 o.parts.outstanding)

-- L3 and L4, Reading: the number plus 1 of a late obligation, whichever it is, or 0 if there is none
pub data LooksAt (b : Book) (member : ℕ) : ℕ → Type 0 where
  none : ((n : ℕ) → n < b.ledger.count → is_late (today_of b) member (obligation_at b.ledger n) ≡ false) → LooksAt b member 0
  some : (n : ℕ) → n < b.ledger.count → is_late (today_of b) member (obligation_at b.ledger n) ≡ true → LooksAt b member (n + 1)

-- G2, Promises; L3 and L5, Reading; A16 and R1, Refusals: what Look may return. If it is refused by 1, it gives zeros.
-- The book stays as it was.
pub record Looks (b : Book) (member : ℕ) (r : Looked) : Type 0 where
  pub number : r.answer ≡ answer (refuse 1 (no_member member) ∷ [])
  pub choice : answer (refuse 1 (no_member member) ∷ []) ≡ 0 → LooksAt b member r.obligation
  pub zero : (answer (refuse 1 (no_member member) ∷ []) ≡ 0 → ⊥) → r.obligation ≡ 0
  pub same : r.book ≡ b
