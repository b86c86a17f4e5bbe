-- What the definitions say is what a pass over the rows by the library's methods on lists finds.
use Rattle.std.proofs.Common.{not, arith, ◌+◌, ◌≡◌, refl, sym, ap, ◌∙◌, Bool, true, false, ◌||◌, Option, None, List, [], ◌∷◌, fold, filter, reverse, nat_eq, cond}
use Rattle.std.specs.List.{list_any, position_or_len}
use Rattle.std.proofs.lemmas.List.{reverse-append}
use Rattle.std.proofs.lemmas.List.Elements.{filter-append}
use Rattle.std.proofs.lemmas.List.Sums.{fold-append}
use Rattle.basics.specs.Choice.{pick}
use Rattle.calendar.specs.declared.Day.{Day}
use Rattle.rates.specs.declared.RateRow.{RateRow}
use Rattle.rates.specs.Rows.{start_of, holds, place_of}
use Rattle.rates.specs.Force.{has_started, or_later, in_force}

-- F6, Rates: the row that is in force is found among those that have started, from the last row to the first
pub force_fold : (t : Day) (rs : List RateRow) → in_force t rs ≡ fold (λ f r. or_later r f) None (filter (has_started t) (reverse rs))
unfolding in_force
force_fold t [] = refl
force_fold t (r ∷ rs) =
    sym (ap (λ xs. fold later None (filter (has_started t) xs)) (reverse-append (r ∷ []) rs)
    ∙ ap (fold later None) (filter-append (has_started t) (reverse rs) (r ∷ []))
    ∙ fold-append later None (filter (has_started t) (reverse rs)) (filter (has_started t) (r ∷ []))
    ∙ ap (λ f. fold later f (filter (has_started t) (r ∷ []))) (sym (force_fold t rs))
    ∙ by (has_started t r))
  where
    later : Option RateRow → RateRow → Option RateRow
    later f r = or_later r f

    by : (b : Bool) → fold later (in_force t rs) (cond b (r ∷ []) []) ≡ pick b (or_later r (in_force t rs)) (in_force t rs)
    by true = refl
    by false = refl

-- F3, Rates: a starting day is held if a row starts on it
pub holds_any : (d : Day) (rs : List RateRow) → holds d rs ≡ list_any (λ r. nat_eq (start_of r).0 d.0) rs
unfolding holds
holds_any d [] = refl
holds_any d (r ∷ rs) = ap (λ b. nat_eq (start_of r).0 d.0 || b) (holds_any d rs)

-- F3, Rates: the place of a starting day is that of the first row that starts on it, or the place after the last row
pub place_position : (d : Day) (rs : List RateRow) → position_or_len (λ r. nat_eq (start_of r).0 d.0) rs ≡ place_of d rs
unfolding place_of
place_position d [] = refl
place_position d (r ∷ rs) = by (nat_eq (start_of r).0 d.0) (place_position d rs)
  where
    by : (b : Bool) → position_or_len (λ r. nat_eq (start_of r).0 d.0) rs ≡ place_of d rs →
        cond (not b) (1 + position_or_len (λ r. nat_eq (start_of r).0 d.0) rs) 0 ≡ pick b 0 (place_of d rs + 1)
    by true e = refl
    by false e = omega (arith, e)
