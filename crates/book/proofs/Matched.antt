-- Laws on the obligation that a match makes.
use mathlib.Core.Path.{◌≡◌, sym, ◌∙◌}
use mathlib.Core.Bool.{true}
use borrow.Author.Tests.{eqb-false, eq-eqb, ne_eqb}
use Rattle.instructions.specs.declared.Leg.{Leg}
use Rattle.instructions.specs.Match.{fits}
use Rattle.instructions.proofs.Matching.{fits_all}
use Rattle.book.specs.Instructing.{obligation_of}

-- E8, Enter: the obligation has the amount of the leg that delivers, whichever of the two is new
pub made_amount : (new old : Leg) → fits old new ≡ true →
    (new.side ≡ 0 → (obligation_of new old).deal.amount ≡ new.amount) × (old.side ≡ 0 → (obligation_of new old).deal.amount ≡ old.amount)
unfolding obligation_of
made_amount new old f = (
  λ e. rw (eq-eqb new.side 0 e),
  λ e. rw (ne_eqb new.side 0 (λ z. eqb-false old.side new.side (fits_all old new f).opposite (e ∙ sym z))),
)
