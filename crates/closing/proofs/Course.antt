-- Laws on the course of a Close for one obligation, from its penalty to its compensation: each part is written after
-- those before it, and what it requires holds after them.
use Prim.Native.Nat.{ℕ}
use mathlib.Core.Path.{◌≡◌, ◌∙◌}
use mathlib.Core.List.{List}
use Rattle.offers.specs.declared.Offer.{Offer}
use Rattle.ledger.specs.declared.Obligation.{Obligation}
use Rattle.ledger.specs.Obligations.{age_by, Sound}
use Rattle.closing.specs.declared.DayEnd.{DayEnd}
use Rattle.closing.specs.declared.Closing.{Closing}
use Rattle.closing.specs.declared.Measures.{Measures}
use Rattle.closing.specs.Lines.{Made, then, Room, Wrote}
use Rattle.closing.specs.Stages.{priced, penalty_on, measures_at, penalised, notice_at, buy_in_at, compensated_at}
use Rattle.closing.specs.Close.{course, stages}
use Rattle.closing.proofs.Lines.{wrote_then, room_first, room_second}
use Rattle.closing.proofs.Parts.{buy_in_goes, notice_same}

-- the course with the penalty, the measures and the stored price of the rules is that of the rules
pub course_is : (d : DayEnd) (offers : List Offer) (n : ℕ) (o k : Obligation) (cents age : ℕ) (m : Measures) → cents ≡ penalty_on d o → age ≡ age_by d.setup d.today o →
    m ≡ measures_at d.setup.terms age o → k ≡ priced d.setup.terms age d.price o → course cents m d.price offers n k ≡ stages d (age_by d.setup d.today o) offers n o
unfolding stages
course_is d offers n o k cents age m c a e p = rw (p, e, a, c)

module _ (cents : ℕ) (m : Measures) (price : ℕ) (offers : List Offer) (q : Closing) (ws : List ℕ)
    (room : Room q.count ws (course cents m price offers q.number q.obligation)) where
  abbrev one : Made
  one = penalised q.number cents q.obligation

  abbrev two : Made
  two = then one (notice_at m.notice q.number)

  abbrev three : Made
  three = then two (buy_in_at m.buy_in offers q.number)

  room_three : Room q.count ws three
  unfolding course
  room_three = room_first q.count ws three (compensated_at m.compensation price q.number) room

  room_two : Room q.count ws two
  room_two = room_first q.count ws two (buy_in_at m.buy_in offers q.number) room_three

  pub penalty_room : Room q.count ws one
  penalty_room = room_first q.count ws one (notice_at m.notice q.number) room_two

  two_same : two.obligation ≡ q.obligation
  unfolding then penalised
  two_same = notice_same m.notice q.number q.obligation

  -- r and us, s and vs, t and xs are the obligation and the list after penalty, notice and buy-in
  module _ (r : Closing) (us : List ℕ) (w : Wrote q ws r us one) where
    pub notice_room : Room r.count us (notice_at m.notice r.number r.obligation)
    notice_room = room_second q r ws us one (notice_at m.notice) room_two w

    module _ (s : Closing) (vs : List ℕ) (x : Wrote r us s vs (notice_at m.notice r.number r.obligation)) where
      after_two : Wrote q ws s vs two
      after_two = wrote_then q r s ws us vs one (notice_at m.notice) w x

      pub buy_in_room : Room s.count vs (buy_in_at m.buy_in offers s.number s.obligation)
      buy_in_room = room_second q s ws vs two (buy_in_at m.buy_in offers) room_three after_two

      pub buy_in_sound : Sound q.obligation → Sound s.obligation
      buy_in_sound g = rw (after_two.made ∙ two_same) g

      module _ (t : Closing) (xs : List ℕ) (y : Wrote s vs t xs (buy_in_at m.buy_in offers s.number s.obligation)) where
        after_three : Wrote q ws t xs three
        after_three = wrote_then q s t ws vs xs two (buy_in_at m.buy_in offers) after_two y

        pub compensate_room : Room t.count xs (compensated_at m.compensation price t.number t.obligation)
        unfolding course
        compensate_room = room_second q t ws xs three (compensated_at m.compensation price) room after_three

        pub compensate_sound : Sound q.obligation → Sound t.obligation
        compensate_sound g = rw y.made (buy_in_goes m.buy_in offers s.number s.obligation (buy_in_sound g)).sound

        pub all_wrote : (u : Closing) (zs : List ℕ) → Wrote t xs u zs (compensated_at m.compensation price t.number t.obligation) →
            Wrote q ws u zs (course cents m price offers q.number q.obligation)
        unfolding course
        all_wrote u zs z = wrote_then q t u ws xs zs three (compensated_at m.compensation price) after_three z
