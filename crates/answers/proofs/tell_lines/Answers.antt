-- There is room for one more line.
use Rattle.std.proofs.Common.{◌≡◌, ◌+◌, ◌-◌, ◌*◌, sym, arith, rules, append-nil}
use Rattle.std.proofs.lemmas.Grind.{common_steps}
use Rattle.answers.specs.Text.{lines_text}
use Rattle.answers.proofs.Lengths.{lines_more, lines_most}
use Rattle.answers.proofs.tell_lines.Goals as goal

pub loop-k-init : goal.loop-k-init
unfolding lines_text
loop-k-init g c = sym (append-nil _)

pub tell_six-requires : goal.tell_six-requires
tell_six-requires g c =
    let most = lines_most c.args.words.now c.loop-k.k in
    (search rules, (grind (arith, common_steps), grind (arith, common_steps, most)))

pub loop-k-preserved : goal.loop-k-preserved
loop-k-preserved g c =
    let k = c.loop-k.k in
    let six : 6 * k + 6 - 6 * k ≡ 6 = omega arith in
    let told = rw six at c.tell_six.ensures in
    rw (lines_more c.args.words.now k) (grind (arith, common_steps))
