-- `kept_of` meets its contract.
use native.Mathlib.Omega.{arith}
use Rattle.answers.proofs.Kept.{kept_none, kept_more, kept_same}
use Rattle.answers.proofs.kept_of.Goals as goal
use Rattle.answers.proofs.kept_of.Goals.{else-word-fill, then-word-fill}

pub loop-word-init : goal.loop-word-init
loop-word-init c = (omega arith, kept_none c.args.words.now 0 c.args.fill)

pub loop-word-preserved : goal.loop-word-preserved
loop-word-preserved c =
    let inv = c.loop-word.invariant in
    let words = c.args.words.now in
    let i = c.loop-word.word-index in
    let more = kept_more words 0 i c.args.fill (omega arith) c.loop-word-test.true _ inv.1 in
    let same = kept_same words 0 i c.args.fill (omega arith) c.loop-word-test.true _ inv.1 in
    elim c.if-word-fill.branch [ then-word-fill w ↦ (omega arith, rw w.kept-is (more w.if-word-fill.true)) | else-word-fill w ↦ (omega arith, rw w.kept-is (same w.if-word-fill.false)) ]
