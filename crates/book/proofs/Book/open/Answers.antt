-- `open` meets its contract.
use Prim.Native.Nat.{ℕ}
use native.Mathlib.Omega.{arith}
use mathlib.Core.Path.{refl, ap, sym, ◌∙◌}
use borrow.Author.Tests.{lt-ltb, le-ltb}
use Rattle.basics.proofs.Refusals.{pass, stop, all_passed, refused_by, done_by}
use Rattle.book.specs.Open.{opened, open_refusals, open_refused, fresh_book}
use Rattle.book.specs.declared.Book.{Book}
use Rattle.book.specs.declared.Opened.{Opened}
use Rattle.calendar.specs.declared.ClosedDays.{ClosedDays}
use Rattle.book.proofs.FreshBooks.{refused_valid, closed_short, fresh_valid, first_good}
use Rattle.book.proofs.Book.open.Goals as goal

abbrev opened_with : ℕ → Book → Opened
opened_with n b = record { answer = n; book = b }

pub returns-then-terms-gt1 : goal.returns-then-terms-gt1
unfolding opened open_refusals
returns-then-terms-gt1 c = record {
  value = c.refused.ensures ∙ refused_by 1 _ _ open_refused (stop 1 _ (lt-ltb 1 c.args.terms (omega arith))) refl;
  valid = rw c.refused.ensures refused_valid;
  closed_stays = refl;
}

pub returns-then-refuses_closed : goal.returns-then-refuses_closed
unfolding opened open_refusals
returns-then-refuses_closed c = record {
  value = c.refused-then-refuses_closed.ensures ∙ refused_by 4 _ _ open_refused (pass 1 _ (le-ltb 1 c.args.terms (omega arith)) ∙ stop 4 _ (sym c.refuses_closed.ensures.value ∙ c.if-refuses_closed.true)) refl;
  valid = rw c.refused-then-refuses_closed.ensures refused_valid;
  closed_stays = refl;
}

pub of-days-requires : goal.of-days-requires
of-days-requires c = closed_short _ (sym c.refuses_closed.ensures.value ∙ c.if-refuses_closed.false)

pub returns-then-is_bad_first : goal.returns-then-is_bad_first
unfolding opened open_refusals
returns-then-is_bad_first c = record {
  value = c.refused-then-is_bad_first.ensures ∙ refused_by 11 _ _ open_refused (pass 1 _ (le-ltb 1 c.args.terms (omega arith)) ∙ pass 4 _ (sym c.refuses_closed.ensures.value ∙ c.if-refuses_closed.false) ∙ stop 11 _ (rw c.of-days.ensures.value at (sym c.is_bad_first.ensures ∙ c.if-is_bad_first.true))) refl;
  valid = rw c.refused-then-is_bad_first.ensures refused_valid;
  closed_stays = refl;
}

pub returns : goal.returns
unfolding opened open_refusals
returns c = let g = rw c.of-days.ensures.value at (sym c.is_bad_first.ensures ∙ c.if-is_bad_first.false) in let h = first_good _ _ g in let q = c.fresh.ensures ∙ ap (λ (k : ClosedDays). fresh_book c.args.first k c.args.terms) c.of-days.ensures.value in record {
  value = ap (opened_with 0) q ∙ done_by _ _ open_refused (pass 1 _ (le-ltb 1 c.args.terms (omega arith)) ∙ pass 4 _ (sym c.refuses_closed.ensures.value ∙ c.if-refuses_closed.false) ∙ pass 11 _ g ∙ all_passed);
  valid = rw q (fresh_valid _ _ c.args.terms (sym c.refuses_closed.ensures.value ∙ c.if-refuses_closed.false) h.0 h.1);
  closed_stays = refl;
}
