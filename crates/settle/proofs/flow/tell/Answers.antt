-- The text of the answer follows what waits in the output, and there is room for the longest answer.
use Rattle.std.proofs.Common.{refl, ap, ◌∙◌, length, length-append, arith}
use Rattle.answers.proofs.Lengths.{answer_most}
use Rattle.answers.specs.Text.{answer_text}
use Rattle.settle.proofs.flow.tell.Goals as goal

pub returns : goal.returns
returns g c =
    let wrote = c.tell.ensures in
    let line = c.args.taken.feed.ended in
    let most = answer_most c.args.answer line c.args.words.now c.requires.0 in
    let long = ap length wrote ∙ length-append c.args.out.now (answer_text c.args.answer line c.args.words.now) in
    record { wrote = wrote; fits = omega (arith, long, most, c.requires.1); next = refl; same = refl }
