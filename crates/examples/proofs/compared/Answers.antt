-- `compared` meets its contract.
use borrow.Author.Tests.{eq-eqb, ne_eqb}
use native.Mathlib.Omega.{arith}
use Rattle.examples.proofs.compared.Goals as goal

pub returns-then-answer-settled : goal.returns-then-answer-settled
returns-then-answer-settled c = record {
  value = rw (eq-eqb _ _ c.if-answer-settled.true);
  upper_bound = omega arith;
}

pub returns : goal.returns
returns c = record {
  value = rw (ne_eqb _ _ c.if-answer-settled.false);
  upper_bound = omega arith;
}
