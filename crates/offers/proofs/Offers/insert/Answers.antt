-- `insert` meets its contract.
use Rattle.std.proofs.Common.{ℕ, rules, arith, ◌≡◌, ◌≤◌, ◌∙◌, sym, ap, List, ◌∷◌, ◌++◌, take, length, set, drop, ◌+◌}
use Rattle.basics.proofs.Cases.{length_mapped}
use Rattle.basics.proofs.Positions.{place_most}
use Rattle.offers.specs.declared.Offer.{Offer}
use Rattle.offers.specs.Rank.{overtakes}
use Rattle.offers.specs.Held.{most_offers, listed_offers}
use Rattle.offers.proofs.Holding.{listed_length}
use Rattle.offers.proofs.Moving.{inserted_at, moved_set}
use Rattle.offers.proofs.Offers.insert.Goals as goal
use Rattle.offers.proofs.Offers.insert.Goals.{After-place_of-at}

sized : (c : After-place_of-at) → length c.args.self.now.rows ≡ most_offers
sized c = search (length_mapped, rules)

-- the place is one of the offers that are held, or the first free row
within : (c : After-place_of-at) → c.place_of-at.result ≤ c.args.self.now.count
within c =
    let s = c.args.self.now in
    omega (arith, c.place_of-at.ensures, place_most (overtakes c.args.o) (listed_offers s), listed_length s (omega (arith, sized c, c.requires)))

pub overflow_add-at : goal.overflow_add-at
overflow_add-at c =
    let d = (goal.at.overflow_add-at c).After-place_of-at in
    record { fits = omega (arith, within d, c.requires) }

pub copy_within-requires-clause-start_le_end : goal.copy_within-requires-clause-start_le_end
copy_within-requires-clause-start_le_end c = within (goal.at.copy_within-requires-clause-start_le_end c).After-place_of-at

pub copy_within-requires-clause-dest_in_bounds : goal.copy_within-requires-clause-dest_in_bounds
copy_within-requires-clause-dest_in_bounds c =
    let d = (goal.at.copy_within-requires-clause-dest_in_bounds c).After-place_of-at in
    omega (arith, within d, sized d, c.requires)

pub offset_bounds-self-at : goal.offset_bounds-self-at
offset_bounds-self-at c =
    let d = (goal.at.offset_bounds-self-at c).After-place_of-at in
    record { fits = omega (arith, within d, c.requires) }

pub bounds-self-at : goal.bounds-self-at
bounds-self-at c = let d = (goal.at.bounds-self-at c).After-place_of-at in omega (arith, within d, c.requires)

pub returns : goal.returns
returns c =
    let d = (goal.at.returns c).After-place_of-at in
    let s = c.args.self.now in
    let o = c.args.o in
    let k = c.place_of-at.result in
    let listed : List Offer = listed_offers s in
    ap (λ (rows : List Offer). record { rows = rows; count = s.count + 1 })
    (ap (λ (rows : List Offer). set rows k o) c.copy_within.ensures.after
    ∙ moved_set s.rows k s.count o (within d) (omega (arith, sized d, c.requires))
    ∙ ap (λ (xs : List Offer). xs ++ drop (s.count + 1) s.rows)
    (ap (λ (j : ℕ). take j listed ++ o ∷ drop j listed) c.place_of-at.ensures ∙ sym (inserted_at overtakes o listed)))
