-- `read_line` meets its contract: there is a law on what the line says for each place where the function returns.
use Rattle.std.proofs.Common.{arith, ◌∙◌}
use Rattle.reading.proofs.Understanding.{empty_comment, hash_comment, too_long, plainly_told}
use Rattle.reading.proofs.read_line.Goals as goal

pub returns-in-empty : goal.returns-in-empty
returns-in-empty c = empty_comment _ _ (omega arith)

pub returns-in-empty-2 : goal.returns-in-empty-2
returns-in-empty-2 c = hash_comment _ _ (λ e. omega arith) (omega arith)

pub returns-then-line-gt-MOST_BYTES : goal.returns-then-line-gt-MOST_BYTES
returns-then-line-gt-MOST_BYTES c = too_long _ _ (λ e. omega arith) (λ e. omega arith) c.if-line-gt-MOST_BYTES.true

pub returns : goal.returns
returns c =
    plainly_told _ _ _ _ (λ e. omega arith) (λ e. omega arith) c.if-line-gt-MOST_BYTES.false
    (c.unwrap_or.ensures ∙ c.read_call.ensures.value, c.read_call.ensures.numbers_after)
