-- The first byte of a torn line decides whether it is a comment.
use Rattle.std.proofs.Common.{◌≡◌, ◌<◌, sym, length, append-nil, rules}
use Rattle.settle.proofs.Endings.{torn_none, torn_comment, torn_answered}
use Rattle.settle.proofs.flow.tell_torn.Goals as goal
use Rattle.settle.proofs.flow.tell_torn.Goals.{else-not-is_empty-via-then-not-is_empty+else-torn-ne35, else-not-is_empty-via-else-not-is_empty}

pub returns-then-torn-ne35 : goal.returns-then-torn-ne35
returns-then-torn-ne35 g c =
    let some : 0 < length c.args.torn.now = search rules in
    rw (torn_answered c.args.lines c.args.torn.now some c.if-torn-ne35.true) c.no_call.ensures

pub returns-else-not-is_empty : goal.returns-else-not-is_empty
returns-else-not-is_empty g c = elim c.else-not-is_empty.branch [
  | else-not-is_empty-via-then-not-is_empty+else-torn-ne35 w ↦
      let some : 0 < length c.args.torn.now = search rules in
      rw (torn_comment c.args.lines c.args.torn.now some w.if-torn-ne35.false) (sym (append-nil c.args.out.now))
  | else-not-is_empty-via-else-not-is_empty w ↦
      let none : length c.args.torn.now ≡ 0 = search rules in
      rw (torn_none c.args.lines c.args.torn.now none) (sym (append-nil c.args.out.now))
]
