-- After the answer to a torn line there is room for the line `end`.
use Rattle.std.proofs.Common.{ap, ◌∙◌, ◌++◌, List, ℕ, take, arith, rules, append_assoc}
use Rattle.std.proofs.lemmas.Grind.{common_steps}
use Rattle.lines.specs.Input.{lines_of}
use Rattle.writing.specs.Answers.{end_of}
use Rattle.settle.specs.Ending.{torn_text, over_text}
use Rattle.settle.proofs.Endings.{torn_most}
use Rattle.settle.proofs.flow.tell_over.Goals as goal

pub end-requires : goal.end-requires
end-requires g c =
    (search rules, grind (arith, common_steps, torn_most c.lines-lines.result (take c.args.feed.held c.args.line.now)))

pub returns : goal.returns
unfolding over_text
returns g c =
    let n = lines_of c.args.feed in
    let torn = torn_text n (take c.args.feed.held c.args.line.now) in
    let first = rw c.lines-lines.ensures at c.tell_torn.ensures in
    let last = rw c.lines-lines.ensures at c.end.ensures in
    last ∙ ap (λ (l : List ℕ). l ++ end_of n) first ∙ append_assoc c.args.out.now torn (end_of n)
