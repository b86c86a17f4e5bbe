-- `write` meets its contract. The loop's invariant: the lines of the first i rows are written.
use Rattle.std.proofs.Common.{ℕ, List, ◌*◌, ◌<◌, ◌≡◌, refl, ap, ◌∙◌, arith, length}
use native.Mathlib.Nat.{le_antisymm}
use lib.ListN.{get_or}
use lib.Seq.{sets, get_or-take, length-take-le}
use Rattle.ledger.specs.Lines.{words_in_line}
use Rattle.closing.specs.declared.Line.{Line}
use Rattle.closing.specs.Lines.{words_of, flat}
use Rattle.reprint.specs.declared.KeptLine.{KeptLine}
use Rattle.reprint.specs.Kept.{line_of, no_line}
use Rattle.reprint.proofs.Keeping.{front, wrote_more, wrote_all}
use Rattle.reprint.proofs.LastClose.write.Goals as goal
use Rattle.reprint.proofs.LastClose.write.Goals.{At-loop-i}

-- as many rows are listed as are counted
listed : (c : At-loop-i) → length c.listed-row-items.result.now ≡ c.args.self.now.count
listed c =
    let k = c.args.self.now in
    ap length c.listed-row-items.ensures ∙ length-take-le k.count k.rows (omega (arith, c.requires.0.size, c.requires.0.few))

pub loop-i-init : goal.loop-i-init
unfolding flat
loop-i-init c = refl

pub loop-i-preserved : goal.loop-i-preserved
loop-i-preserved c =
    let k = c.args.self.now in
    let i = c.loop-i.i in
    let at = (goal.at.loop-i-preserved c).At-loop-i in
    let more : i < k.count = omega (arith, c.loop-i-test.true, listed at) in
    let row : get_or c.listed-row-items.result.now i no_line ≡ get_or k.rows i no_line =
    ap (λ (rows : List KeptLine). get_or rows i no_line) c.listed-row-items.ensures ∙ get_or-take k.count k.rows i no_line more in
    wrote_more k.rows i c.args.lines.now _ _ (omega (arith, more, c.requires.0.size, c.requires.0.few)) c.loop-i.invariant
    (c.put_line.ensures ∙ ap (λ (l : Line). sets c.loop-i.lines (words_in_line * i) (words_of l)) (c.from.ensures ∙ ap line_of row))

pub returns : goal.returns
returns c =
    let k = c.args.self.now in
    let all = le_antisymm c.loop-i.auto.i-end c.loop-i-test.false in
    wrote_all k c.args.lines.now _ c.requires.0 c.requires.1
    (c.loop-i.invariant ∙ ap (λ (n : ℕ). sets c.args.lines.now 0 (flat (front n k.rows))) (all ∙ listed (goal.at.returns c).At-loop-i))
