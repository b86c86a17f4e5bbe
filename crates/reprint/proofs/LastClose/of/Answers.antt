-- `of` meets its contract. The loop's invariant: the first i lines are kept.
use Prim.Native.Nat.{ℕ}
use native.Mathlib.Nat.{le_antisymm}
use native.Mathlib.Omega.{arith}
use mathlib.Core.List.{map}
use mathlib.Core.Path.{refl, sym, ap, subst, ◌∙◌}
use lib.ListN.{set}
use Rattle.basics.specs.Lists.{table_from, padded}
use Rattle.basics.proofs.Everywhere.{every_at}
use Rattle.basics.proofs.Tables.{table_at}
use Rattle.ledger.specs.Lines.{most_lines}
use Rattle.closing.specs.Lines.{line_at, lines_read, SoundLine}
use Rattle.closing.proofs.Lines.{read_length}
use Rattle.reprint.specs.Kept.{kept_line, no_line}
use Rattle.reprint.proofs.Keeping.{kept_more}
use Rattle.reprint.proofs.LastClose.of.Goals as goal

pub loop-i-init : goal.loop-i-init
unfolding lines_read table_from
loop-i-init c = refl

pub line_at-requires : goal.line_at-requires
unfolding lines_read
line_at-requires c =
    let h = c.requires in
    let ws = c.args.lines.now in
    let i = c.loop-i.i in
    let more = c.loop-i-test.true in (
      omega (arith, more, h.long),
      subst SoundLine (table_at c.args.count (line_at ws) i (line_at ws 0) more)
          (every_at h.sound i (line_at ws 0) (omega (arith, more, read_length c.args.count ws))),
    )

pub loop-i-preserved : goal.loop-i-preserved
loop-i-preserved c =
    let ws = c.args.lines.now in
    let i = c.loop-i.i in
    let rows = c.loop-i.rows in
    ap (set rows i) c.line_at.ensures ∙ kept_more ws i rows (omega (arith, c.loop-i-test.true, c.requires.few)) c.loop-i.invariant

pub returns-clause-value : goal.returns-clause-value
returns-clause-value c =
    let ws = c.args.lines.now in
    let count = c.args.count in
    let all = le_antisymm c.loop-i.auto.i-end c.loop-i-test.false in
    let rows = c.loop-i.invariant ∙ ap (λ (n : ℕ). padded most_lines no_line (map kept_line (lines_read n ws))) all in
    (λ i. record { rows = rows i; count = sym (read_length count ws) i })
