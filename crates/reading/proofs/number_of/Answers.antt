-- `number_of` meets its contract. The loop's invariant is `Read`: the value so far, with what is left of the word, gives
-- the same number as the whole word.
use Rattle.std.proofs.Common.{arith, rules, ◌≡◌, ◌∙◌, eqb-true, inl, inr, ◌<◌, ◌+◌, ◌-◌, ◌*◌, length, get_or}
use Rattle.std.proofs.lemmas.Grind.{common_steps}
use Rattle.reading.proofs.Reading.{read_empty, read_begins, read_ends, read_below, read_above, read_large, read_goes_on}
use Rattle.reading.proofs.number_of.Goals as goal

pub returns-then-is_empty : goal.returns-then-is_empty
returns-then-is_empty c = read_empty _ (eqb-true _ _ (search rules))

pub loop-byte-init : goal.loop-byte-init
loop-byte-init c = read_begins _

pub returns-then-not-is_ascii_digit : goal.returns-then-not-is_ascii_digit
returns-then-not-is_ascii_digit c =
    elim c.if-not-is_ascii_digit.ensures.cases [
      | inl below ↦ read_below _ _ _ c.loop-byte.invariant c.loop-byte-test.true below
      | inr above ↦ read_above _ _ _ c.loop-byte.invariant c.loop-byte-test.true above
    ]

pub returns-in_err-checked_mul : goal.returns-in_err-checked_mul
returns-in_err-checked_mul c =
    c.from_residual.ensures
    ∙ read_large _ _ _ c.loop-byte.invariant c.loop-byte-test.true (omega (arith, rw c.in_err-checked_mul.was at c.checked_mul.ensures))

pub returns-in_err-value : goal.returns-in_err-value
returns-in_err-value c =
    c.from_residual-in_err-value.ensures
    ∙ read_large _ _ _ c.loop-byte.invariant c.loop-byte-test.true (omega (arith, c.in_ok-checked_mul.ensures, c.in_err-value.ensures))

pub loop-byte-preserved : goal.loop-byte-preserved
loop-byte-preserved c =
    let digit = c.if-not-is_ascii_digit.ensures.cases in
    let sum = c.in_ok-value.ensures in
    let same : c.in_ok-value.value ≡ c.loop-byte.value * 10 + (get_or c.args.word.now c.loop-byte.byte-index 0 - 48) =
    omega (arith, c.in_ok-checked_mul.ensures) in
    rw same
    (read_goes_on _ _ _ c.loop-byte.invariant c.loop-byte-test.true digit.0 digit.1 (omega (arith, c.in_ok-checked_mul.ensures)))

pub returns : goal.returns
returns c =
    let some : 0 < length c.args.word.now = grind (arith, common_steps) in
    read_ends _ _ _ c.loop-byte.invariant some c.loop-byte-test.false
