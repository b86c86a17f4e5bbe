-- The journals of the examples are those of the chapter Whole journals, whose calls stand there the latest first.
use mathlib.Core.Path.{◌≡◌, refl}
use mathlib.Core.List.{List, [], ◌∷◌, reverse_aux, reverse}
use Rattle.journal.specs.Calls.{Opening, Call}
use Rattle.journal.specs.Played.{begun, played}
use Rattle.examples.specs.Played.{book_after, events_on}

module _ (o : Opening) where
  later_book : (calls earlier : List Call) → book_after (played o earlier).book calls ≡ (played o (reverse_aux calls earlier)).book
  later_book [] earlier = refl
  later_book (c ∷ calls) earlier = later_book calls (c ∷ earlier)

  later_past : (calls earlier : List Call) →
      reverse_aux (events_on (played o earlier).book calls) (played o earlier).past ≡ (played o (reverse_aux calls earlier)).past
  later_past [] earlier = refl
  later_past (c ∷ calls) earlier = later_past calls (c ∷ earlier)

-- the book after calls is the one that the calls of the journal lead to
pub book_is_played : (o : Opening) (calls : List Call) → book_after (begun o).book calls ≡ (played o (reverse calls)).book
book_is_played o calls = later_book o calls []

-- the events are those of the journal
pub events_are_played : (o : Opening) (calls : List Call) → reverse (events_on (begun o).book calls) ≡ (played o (reverse calls)).past
events_are_played o calls = later_past o calls []
