-- `again` meets its contract.
use Prim.Native.Nat.{ℕ}
use mathlib.Core.Path.{sym, ap, ◌∙◌}
use Rattle.basics.proofs.Refusals.{refused_with, done_by}
use Rattle.refusals.proofs.Ending.{again_given}
use Rattle.book.specs.Close.{close_refused}
use Rattle.book.specs.Again.{again_done, again, again_words}
use Rattle.book.proofs.Book.again.Goals as goal

pub write-requires : goal.write-requires
write-requires c =
    (c.requires.last, (again_given _ _ (sym (c.answer_of-answer.ensures ∙ c.again-allowed.ensures) ∙ c.if-answer-eq0.true)).0)

pub returns-then-answer-eq0 : goal.returns-then-answer-eq0
unfolding again again_words
returns-then-answer-eq0 c =
    let zero = c.if-answer-eq0.true in
    let number = sym (c.answer_of-answer.ensures ∙ c.again-allowed.ensures) ∙ zero in record {
      value = ap (λ (n : ℕ). record { answer = n; count = c.args.self.last.count; book = c.args.self }) zero ∙ done_by _ (again_done c.args.self) (close_refused c.args.self) number;
      lines_after = c.write.ensures ∙ done_by _ _ (λ k. c.args.lines.now) number;
      valid = c.requires;
    }

pub returns-else-answer-eq0 : goal.returns-else-answer-eq0
unfolding again again_words
returns-else-answer-eq0 c =
    let number = sym (c.answer_of-answer.ensures ∙ c.again-allowed.ensures) in record {
      value = refused_with _ _ (again_done c.args.self) (close_refused c.args.self) number c.if-answer-eq0.false;
      lines_after = refused_with _ _ _ (λ k. c.args.lines.now) number c.if-answer-eq0.false;
      valid = c.requires;
    }
