-- The bytes ahead are held, and they end the line if its line feed was read too.
use Rattle.std.proofs.Common.{◌-◌, drop, length-take-le, length-drop, arith}
use Rattle.lines.specs.Input.{ended_at, goes_on}
use Rattle.lines.proofs.Input.{end_within, taken_ended, taken_goes_on}
use Rattle.lines.proofs.Feed.take.Goals as goal

pub slice_bounds-hold-end : goal.slice_bounds-hold-end
slice_bounds-hold-end c =
    let within = end_within c.args.self c.args.part.now _ c.requires.0 c.place_of-end.ensures in
    omega (arith, within)

pub returns-then-end-self : goal.returns-then-end-self
unfolding ended_at
returns-then-end-self c =
    let hold = c.hold-held.ensures in
    let within = end_within c.args.self c.args.part.now _ c.requires.0 c.place_of-end.ensures in
    let size = length-take-le (c.place_of-end.result - c.args.self.from) (drop c.args.self.from c.args.part.now) (omega (arith, within, length-drop c.args.self.from c.args.part.now)) in
    let law = taken_ended c.args.self c.args.part.now _ c.requires.0 c.place_of-end.ensures c.args.line.now
    _ _ (rw size at hold.value) hold.line_after c.if-end-self.true in
    record { value = rw c.one_more.ensures law.0; line_after = law.1 }

pub returns : goal.returns
unfolding goes_on
returns c =
    let hold = c.hold-held.ensures in
    let within = end_within c.args.self c.args.part.now _ c.requires.0 c.place_of-end.ensures in
    let size = length-take-le (c.place_of-end.result - c.args.self.from) (drop c.args.self.from c.args.part.now) (omega (arith, within, length-drop c.args.self.from c.args.part.now)) in
    let law = taken_goes_on c.args.self c.args.part.now _ c.requires.0 c.place_of-end.ensures c.args.line.now
    _ _ (rw size at hold.value) hold.line_after c.if-end-self.false in
    record { value = law.0; line_after = law.1 }
