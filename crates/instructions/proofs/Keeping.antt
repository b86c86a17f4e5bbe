-- One leg more, or a leg in another state: the legs that were entered, how many wait, and that they stay valid.
use Prim.Native.Nat.{ℕ, ◌+◌, ◌<◌}
use native.Mathlib.Nat.{add-zero}
use native.Mathlib.Numerals.{add-one}
use native.Mathlib.Omega.{arith}
use mathlib.Core.Path.{◌≡◌, refl, ap, ◌∙◌}
use mathlib.Core.List.{[], ◌∷◌, ◌++◌}
use lib.ListN.{length, get_or, set, length-set, length-take}
use lib.Seq.{take-suc-set, get_or-take}
use Rattle.basics.specs.Choice.{pick}
use Rattle.basics.specs.Lists.{total}
use Rattle.basics.specs.Lists.Every.{nobody, also}
use Rattle.basics.proofs.Everywhere.{every_append, every_set, every_at}
use Rattle.basics.proofs.Places.{take_set}
use Rattle.basics.proofs.Sums.{total_append, total_set}
use Rattle.instructions.specs.declared.LegState.{LegState}
use Rattle.instructions.specs.declared.Leg.{Leg}
use Rattle.instructions.specs.declared.Legs.{Legs}
use Rattle.instructions.specs.Legs.{most_legs, is_waiting, no_leg, no_legs, entered, in_state, leg_at, with_state, with_leg, waiting_one, waiting, SoundLeg, ValidLegs}

-- no legs
pub none_valid : ValidLegs no_legs
none_valid = record { size = refl; few = omega arith; sound = nobody }

pub none_waiting : waiting no_legs ≡ 0
unfolding waiting total
none_waiting = refl

module _ (s : Legs) (v : ValidLegs s) where
  -- ---- one leg more
  module _ (l : Leg) (room : s.count < most_legs) where
    pub entered_with_lem : entered (with_leg l s) ≡ entered s ++ l ∷ []
    entered_with_lem = rw (add-one s.count) (take-suc-set s.rows s.count l (omega (arith, v.size)))

    pub waiting_with : waiting (with_leg l s) ≡ waiting s + waiting_one l
    unfolding waiting total
    waiting_with = rw entered_with_lem (total_append waiting_one (entered s) (l ∷ []) ∙ ap (λ (n : ℕ). waiting s + n) (add-zero (waiting_one l)))

    pub valid_with : SoundLeg l → ValidLegs (with_leg l s)
    valid_with q = record {
      size = length-set s.rows s.count l ∙ v.size;
      few = omega arith;
      sound = rw entered_with_lem (every_append v.sound (also q nobody));
    }

  -- ---- another state
  module _ (n : ℕ) (there : n < s.count) where
    abbrev at : Leg
    at = leg_at s n

    entered_at : get_or (entered s) n no_leg ≡ at
    entered_at = get_or-take s.count s.rows n no_leg there

    entered_inside : n < length (entered s)
    entered_inside = omega (arith, length-take s.count s.rows, v.size, v.few)

    -- a leg that was entered is sound
    pub leg_sound : SoundLeg at
    leg_sound = rw entered_at at (every_at v.sound n no_leg entered_inside)

    module _ (state : LegState) where
      pub entered_state : entered (with_state n state s) ≡ set (entered s) n (in_state state at)
      entered_state = take_set s.count s.rows n (in_state state at) there

      pub waiting_state : waiting (with_state n state s) + waiting_one at ≡ waiting s + pick (is_waiting state) 1 0
      unfolding waiting
      waiting_state = omega (arith, ap (total waiting_one) entered_state, ap waiting_one entered_at, total_set waiting_one (entered s) n (in_state state at) no_leg entered_inside)

      pub valid_state : ValidLegs (with_state n state s)
      valid_state = record {
        size = length-set s.rows n (in_state state at) ∙ v.size;
        few = v.few;
        sound = rw entered_state (every_set v.sound n (in_state state at) (record { amount_some = leg_sound.amount_some; amount_most = leg_sound.amount_most }));
      }
