-- What is written last depends on how the run went, and it is within the output.
use Rattle.std.proofs.Common.{refl, ◌∙◌, ap, ◌++◌, List, ℕ, length, arith}
use Rattle.settle.specs.Ending.{text_after, over_text}
use Rattle.settle.proofs.Endings.{over_most}
use Rattle.settle.proofs.flow.tell_last.Goals as goal

pub returns-in-Going : goal.returns-in-Going
unfolding text_after
returns-in-Going g c = record { upper_bound = c.keep.ensures; out_after = rw c.in-Going.is refl }

pub returns-in-Over : goal.returns-in-Over
unfolding text_after
returns-in-Over g c =
    let over = over_text c.args.flow.feed c.args.line.now in
    let told = c.tell_over.ensures ∙ ap (λ (l : List ℕ). l ++ over) c.clear.ensures in
    record {
      upper_bound = omega (arith, ap length told, over_most c.args.flow.feed c.args.line.now, c.requires);
      out_after = rw c.in-Over.is told;
    }

pub returns-in-Failed : goal.returns-in-Failed
unfolding text_after
returns-in-Failed g c = record {
  upper_bound = omega (arith, ap length c.clear-in-Failed.ensures);
  out_after = rw c.in-Failed.is c.clear-in-Failed.ensures;
}
