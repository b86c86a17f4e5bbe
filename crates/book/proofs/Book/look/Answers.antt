-- `look` meets its contract.
use mathlib.Core.Path.{refl, sym, ◌∙◌}
use Rattle.basics.proofs.Reasons.{number_some, number_by, zero_by}
use Rattle.book.proofs.Book.look.Goals as goal

pub returns-in-Err-clause-looks : goal.returns-in-Err-clause-looks
returns-in-Err-clause-looks c =
    let e = number_by c.member_in.ensures c.in-Err.is in
    record { number = c.from.ensures ∙ sym e; choice = λ z. absurd (number_some _ (sym e ∙ z)); zero = λ z. refl; same = refl }

pub returns-clause-looks : goal.returns-clause-looks
returns-clause-looks c =
    let e = zero_by c.member_in.ensures c.in_default.is in
    record { number = sym e; choice = λ q. c.late_of-obligation.ensures; zero = λ q. absurd (q e); same = refl }
