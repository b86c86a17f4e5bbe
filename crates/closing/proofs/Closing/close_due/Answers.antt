-- `close_due` meets its contract.
use mathlib.Core.Path.{◌≡◌, sym, ap}
use Rattle.calendar.specs.declared.ClearingDays.{ClearingDays}
use Rattle.offers.specs.Held.{listed_offers}
use Rattle.ledger.specs.Obligations.{age_by, Sound}
use Rattle.closing.specs.declared.Closing.{Closing}
use Rattle.closing.specs.Lines.{Room, Wrote}
use Rattle.closing.specs.Stages.{notice_at, buy_in_at, compensated_at}
use Rattle.closing.specs.Close.{course, stages}
use Rattle.closing.proofs.Course.{course_is, penalty_room, notice_room, buy_in_room, buy_in_sound, compensate_room, compensate_sound, all_wrote}
use Rattle.closing.proofs.Lines.{wrote_nothing, wrote_from}
use Rattle.closing.proofs.Parts.{priced_goes}
use Rattle.closing.proofs.Closing.close_due.Goals as goal
use Rattle.closing.proofs.Closing.close_due.Goals.{After-keep_price-self, After-penalise, Joined-measures, Joined-measures-2, then-measures, else-measures, then-measures-2, else-measures-2}

-- the obligation with its price stored, before the first step
abbrev start : After-keep_price-self → Closing
start c = record { number = c.args.self.now.number; obligation = c.keep_price-self.result; count = c.args.self.now.count }

-- the course that the function follows is that of the rules
followed : (c : After-keep_price-self) →
    course c.args.cents c.measures_at-measures.result c.args.day.now.price (listed_offers c.args.offers.now) c.args.self.now.number c.keep_price-self.result ≡
    stages c.args.day.now (age_by c.args.day.now.setup c.args.day.now.today c.args.self.now.obligation) (listed_offers c.args.offers.now) c.args.self.now.number c.args.self.now.obligation
followed c =
    let a = c.args in
    course_is a.day.now (listed_offers a.offers.now) a.self.now.number a.self.now.obligation _ _ _ _ c.requires.closes.1 (ap (λ (x : ClearingDays). x.0) c.age_at-age.ensures)
    c.measures_at-measures.ensures c.keep_price-self.ensures

-- it has room for its lines
room : (c : After-keep_price-self) → Room c.args.self.now.count c.args.lines.now
    (course c.args.cents c.measures_at-measures.result c.args.day.now.price (listed_offers c.args.offers.now) c.args.self.now.number c.keep_price-self.result)
room c = rw (followed c) c.requires.room

-- the obligation with its price stored is sound
sound : (c : After-keep_price-self) → Sound c.keep_price-self.result
sound c = let h = c.requires.closes.0 in rw c.keep_price-self.ensures (priced_goes _ _ _ _ h.end.price_most h.sound).sound

-- the notice and the buy-in, whether they come or not
noticed : (c : Joined-measures) →
    let s = c.penalise.new in
    Wrote s.self s.lines c.if-measures.self c.if-measures.lines (notice_at c.measures_at-measures.result.notice s.self.number s.self.obligation)
unfolding notice_at
noticed c =
    elim c.if-measures.branch [
      | then-measures w ↦ rw (w.self-is, w.lines-is, w.if-measures.true) w.give_notice.ensures
      | else-measures w ↦ rw (w.self-is, w.lines-is, w.if-measures.false) (wrote_nothing _ _)
    ]

bought : (c : Joined-measures-2) →
    let s = c.if-measures in
    Wrote s.self s.lines c.if-measures-2.self c.if-measures-2.lines (buy_in_at c.measures_at-measures.result.buy_in (listed_offers c.args.offers.now) s.self.number s.self.obligation)
unfolding buy_in_at
bought c =
    elim c.if-measures-2.branch [
      | then-measures-2 w ↦ rw (w.self-is, w.lines-is, w.if-measures-2.true) w.buy_in.ensures
      | else-measures-2 w ↦ rw (w.self-is, w.lines-is, w.if-measures-2.false) (wrote_nothing _ _)
    ]

pub penalise-requires : goal.penalise-requires
penalise-requires c =
    let k = (goal.at.penalise-requires c).After-keep_price-self in
    penalty_room _ _ _ _ (start k) _ (room k)

pub give_notice-requires : goal.give_notice-requires
give_notice-requires c =
    let k = (goal.at.give_notice-requires c).After-keep_price-self in
    rw c.if-measures.true at (notice_room _ _ _ _ (start k) _ (room k) _ _ c.penalise.ensures)

pub buy_in-requires-clause-sound : goal.buy_in-requires-clause-sound
buy_in-requires-clause-sound c =
    let p = goal.at.buy_in-requires-clause-sound c in
    let k = p.After-keep_price-self in
    (buy_in_sound _ _ _ _ (start k) _ (room k) _ _ c.penalise.ensures _ _ (noticed p.Joined-measures) (sound k), c.requires.closes.0.priced)

pub buy_in-requires-clause-room : goal.buy_in-requires-clause-room
buy_in-requires-clause-room c =
    let p = goal.at.buy_in-requires-clause-room c in
    let k = p.After-keep_price-self in
    rw c.if-measures-2.true at (buy_in_room _ _ _ _ (start k) _ (room k) _ _ c.penalise.ensures _ _ (noticed p.Joined-measures))

pub compensate-requires-clause-sound : goal.compensate-requires-clause-sound
compensate-requires-clause-sound c =
    let p = goal.at.compensate-requires-clause-sound c in
    let k = p.After-keep_price-self in (
      compensate_sound _ _ _ _ (start k) _ (room k) _ _ c.penalise.ensures _ _ (noticed p.Joined-measures) _ _ (bought p.Joined-measures-2) (sound k),
      c.requires.closes.0.end.price_most,
    )

pub compensate-requires-clause-room : goal.compensate-requires-clause-room
unfolding compensated_at
compensate-requires-clause-room c =
    let p = goal.at.compensate-requires-clause-room c in
    let k = p.After-keep_price-self in
    rw c.if-measures-3.true at (compensate_room _ _ _ _ (start k) _ (room k) _ _ c.penalise.ensures _ _ (noticed p.Joined-measures) _ _ (bought p.Joined-measures-2))

pub returns-then-measures-3 : goal.returns-then-measures-3
unfolding compensated_at
returns-then-measures-3 c =
    let p = goal.at.returns-then-measures-3 c in
    let k = p.After-keep_price-self in
    rw (sym (followed k))
    (wrote_from c.args.self.now _ _ _ _ _
    (all_wrote _ c.measures_at-measures.result _ _ (start k) _ (room k) _ _ c.penalise.ensures _ _ (noticed p.Joined-measures) _ _ (bought p.Joined-measures-2) _ _ (rw c.if-measures-3.true c.compensate.ensures)))

pub returns-else-measures-3 : goal.returns-else-measures-3
unfolding compensated_at
returns-else-measures-3 c =
    let p = goal.at.returns-else-measures-3 c in
    let k = p.After-keep_price-self in
    rw (sym (followed k))
    (wrote_from c.args.self.now _ _ _ _ _
    (all_wrote _ c.measures_at-measures.result _ _ (start k) _ (room k) _ _ c.penalise.ensures _ _ (noticed p.Joined-measures) _ _ (bought p.Joined-measures-2) _ _ (rw c.if-measures-3.false (wrote_nothing _ _))))
