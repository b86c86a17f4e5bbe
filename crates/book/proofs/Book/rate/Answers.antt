-- `rate` meets its contract.
use Prim.Native.Nat.{◌<◌}
use native.Mathlib.Omega.{arith}
use mathlib.Core.Path.{ap, subst⁻¹, ◌∙◌}
use Rattle.basics.proofs.Reasons.{zero_by, refused_for, done_for}
use Rattle.calendar.specs.declared.StoredDay.{StoredDay}
use Rattle.rates.specs.declared.Rates.{Rates}
use Rattle.calendar.specs.Closed.{day_of}
use Rattle.rates.specs.Rows.{most_rows, row_of, place_of, listed_rates, with_rate}
use Rattle.rates.proofs.Keeping.{room_fits}
use Rattle.refusals.proofs.Rating.{Rated, rate_given}
use Rattle.book.specs.declared.Done.{Done}
use Rattle.book.specs.Book.{with_rates, today_of}
use Rattle.book.specs.Instructing.{done_refused}
use Rattle.book.specs.Rating.{rate_done, rated}
use Rattle.book.proofs.Answers.{answered}
use Rattle.book.proofs.Kept.{rate_valid}
use Rattle.book.proofs.Book.rate.Goals as goal
use Rattle.book.proofs.Book.rate.Goals.{In_default}

-- what a Rate that is not refused was given
given : (c : In_default) → let a = c.args in Rated (today_of a.self) a.self.rates a.start a.rate
given c = rate_given _ _ _ _ (zero_by c.rate.ensures c.in_default.is)

pub rate-requires : goal.rate-requires
rate-requires c = c.requires.rates.few

pub returns-in-Err-clause-value : goal.returns-in-Err-clause-value
unfolding rated
returns-in-Err-clause-value c = c.refused.ensures ∙ refused_for _ _ (done_refused c.args.self) c.rate.ensures c.in-Err.is

pub stored-requires : goal.stored-requires
stored-requires c = (given (goal.at.stored-requires c).In_default).start_most

pub overflow_cast-rate : goal.overflow_cast-rate
overflow_cast-rate c = record { fits = omega (arith, (given (goal.at.overflow_cast-rate c).In_default).rate_most) }

pub enter-requires : goal.enter-requires
enter-requires c =
    let a = c.args in
    let fits = room_fits (today_of a.self) a.self.rates c.requires.rates (row_of a.start a.rate) (given (goal.at.enter-requires c).In_default).room in
    (c.requires.rates.few, subst⁻¹ (λ (d : StoredDay). place_of (day_of d) (listed_rates a.self.rates) < most_rows) c.stored.ensures fits)

pub returns : goal.returns
unfolding rated
returns c =
    let a = c.args in
    let entered = c.enter.ensures ∙ ap (λ (d : StoredDay). with_rate (record { start = d; rate = a.rate }) a.self.rates) c.stored.ensures in
    answered (λ (r : Done). r.book)
    (ap (λ (rates : Rates). record { answer = 0; book = with_rates rates a.self }) entered
    ∙ done_for _ (rate_done a.self a.start a.rate) (done_refused a.self) c.rate.ensures c.in_default.is)
    (rate_valid _ c.requires a.start a.rate)
