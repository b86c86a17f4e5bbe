-- The penalties of a Close: what its lines of kind 1 say of an account is what it does to that account.
use Rattle.std.specs.Prelude.{Option, Some}
use Prim.Native.Nat.{ℕ, zero, suc, ◌<◌}
use native.Mathlib.Omega.{arith}
use mathlib.Core.Path.{◌≡◌, refl, sym, ap, ap₂, ◌∙◌}
use mathlib.Core.Bool.{Bool, true, false}
use mathlib.Core.List.{List, [], ◌∷◌, ◌++◌}
use lib.Dec.{eqb}
use lib.IntN.{ℤ, pos, ◌+ℤ◌, +ℤ_assoc, +ℤ_idl, +ℤ_idr}
use lib.ListN.{length, get_or}
use Rattle.basics.specs.Choice.{pick}
use Rattle.basics.specs.Lists.{Every}
use Rattle.basics.specs.Lists.Every.{nobody, also}
use Rattle.netting.specs.Accounts.{member_count, transferred}
use Rattle.netting.proofs.Transfers.{transferred_credit}
use Rattle.offers.specs.declared.Offer.{Offer}
use Rattle.ledger.specs.declared.Obligation.{Obligation}
use Rattle.ledger.specs.declared.Sides.{Sides}
use Rattle.ledger.specs.Obligations.{no_obligation, is_due, sides_of}
use Rattle.ledger.proofs.Keeping.{SoundSides}
use Rattle.closing.specs.declared.DayEnd.{DayEnd}
use Rattle.closing.specs.declared.Line.{Line}
use Rattle.closing.specs.Lines.{penalty_kind, Made, then}
use Rattle.closing.specs.Stages.{penalty_on, penalised}
use Rattle.closing.specs.Close.{closed_one, closed_at, lines_up_to, fined, accounts_up_to}
use Rattle.closing.proofs.Fines.{accounts_length}
use Rattle.journal.specs.Sums.{credit_of, penalties_of}
use Rattle.journal.proofs.Reported.{Behind, Behaves, closed_by}

-- ---- the penalties of lines
module _ (m : ℕ) (sides_at : ℕ → Option Sides) where
  penalties_append : (ls ms : List Line) → penalties_of m sides_at (ls ++ ms) ≡ penalties_of m sides_at ls +ℤ penalties_of m sides_at ms
  unfolding penalties_of
  penalties_append [] ms = sym (+ℤ_idl (penalties_of m sides_at ms))
  penalties_append (l ∷ ls) ms =
      let x : ℤ = pick (eqb l.kind penalty_kind) (credit_of m l.cents (sides_at l.obligation)) (pos 0) in
      ap (λ (z : ℤ). x +ℤ z) (penalties_append ls ms) ∙ sym (+ℤ_assoc x (penalties_of m sides_at ls) (penalties_of m sides_at ms))

  -- lines of other kinds are no penalties
  penalties_none : {n : ℕ} {ls : List Line} → Every (Behind n) ls → penalties_of m sides_at ls ≡ pos 0
  unfolding penalties_of
  penalties_none nobody = refl
  penalties_none (also b bs) = rw (b.no_penalty, penalties_none bs)

  -- a part that comes after the penalty adds none
  penalties_then : (n : ℕ) (x : Made) (f : Obligation → Made) → Behaves n x.obligation (f x.obligation) →
      penalties_of m sides_at (then x f).lines ≡ penalties_of m sides_at x.lines
  unfolding then
  penalties_then n x f p =
      penalties_append x.lines (f x.obligation).lines
      ∙ ap (λ (z : ℤ). penalties_of m sides_at x.lines +ℤ z) (penalties_none p.behind)
      ∙ +ℤ_idr (penalties_of m sides_at x.lines)

-- the lines of kind 1 of one obligation are its penalty
pub fine_line : (d : DayEnd) (offers : List Offer) (n : ℕ) (o : Obligation) (m : ℕ) (sides_at : ℕ → Option Sides) →
    penalties_of m sides_at (closed_one d offers n o).lines ≡ pick (is_due d.today o) (credit_of m (penalty_on d o) (sides_at n)) (pos 0)
unfolding penalised penalties_of
fine_line d offers n o m sides_at =
    closed_by d offers n o (λ t (x : Made). penalties_of m sides_at x.lines ≡ pick t (credit_of m (penalty_on d o) (sides_at n)) (pos 0))
    (λ x f a p. penalties_then m sides_at n x f p ∙ a)
    (λ age. +ℤ_idr (credit_of m (penalty_on d o) (sides_at n)))
    refl

-- ---- accounts
-- what the penalty of one obligation does to an account
fined_credit : (d : DayEnd) (o : Obligation) (accounts : List ℤ) → length accounts ≡ member_count → SoundSides (sides_of o) → (m : ℕ) →
    get_or (fined d o accounts) m (pos 0) ≡ get_or accounts m (pos 0) +ℤ pick (is_due d.today o) (credit_of m (penalty_on d o) (Some (sides_of o))) (pos 0)
unfolding fined
fined_credit d o accounts size s m = by (is_due d.today o)
  where
    by : (t : Bool) → get_or (pick t (transferred (sides_of o).debtor (sides_of o).creditor (penalty_on d o) accounts) accounts) m (pos 0) ≡
        get_or accounts m (pos 0) +ℤ pick t (credit_of m (penalty_on d o) (Some (sides_of o))) (pos 0)
    by true = transferred_credit (sides_of o).debtor (sides_of o).creditor (penalty_on d o) accounts (omega (arith, size, s.debtor_below)) (omega (arith, size, s.creditor_below)) s.apart m
    by false = sym (+ℤ_idr (get_or accounts m (pos 0)))

-- what the penalties of a Close do to each account is what its lines of kind 1 say, where each obligation has its own sides
pub accounts_reported : (d : DayEnd) (offers : List Offer) (os : List Obligation) (accounts : List ℤ) (sides_at : ℕ → Option Sides) (n : ℕ) →
    length accounts ≡ member_count → ((k : ℕ) → k < n → SoundSides (sides_of (get_or os k no_obligation))) →
    ((k : ℕ) → k < n → sides_at k ≡ Some (sides_of (get_or os k no_obligation))) →
    (m : ℕ) → get_or (accounts_up_to d os accounts n) m (pos 0) ≡ get_or accounts m (pos 0) +ℤ penalties_of m sides_at (lines_up_to d offers os n)
unfolding accounts_up_to lines_up_to penalties_of
accounts_reported d offers os accounts sides_at zero size sound own m = sym (+ℤ_idr (get_or accounts m (pos 0)))
accounts_reported d offers os accounts sides_at (suc n) size sound own m =
    let o : Obligation = get_or os n no_obligation in
    let before : List ℤ = accounts_up_to d os accounts n in
    let ls : List Line = lines_up_to d offers os n in
    let ms : List Line = (closed_at d offers os n).lines in
    let fine = fine_line d offers n o m sides_at ∙ ap (λ (x : Option Sides). pick (is_due d.today o) (credit_of m (penalty_on d o) x) (pos 0)) (own n (omega arith)) in
    fined_credit d o before (accounts_length d os accounts n ∙ size) (sound n (omega arith)) m
    ∙ ap₂ ◌+ℤ◌ (accounts_reported d offers os accounts sides_at n size (λ k l. sound k (omega arith)) (λ k l. own k (omega arith)) m) (sym fine)
    ∙ +ℤ_assoc (get_or accounts m (pos 0)) (penalties_of m sides_at ls) (penalties_of m sides_at ms)
    ∙ ap (λ (z : ℤ). get_or accounts m (pos 0) +ℤ z) (sym (penalties_append m sides_at ls ms))
