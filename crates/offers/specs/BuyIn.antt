-- The buy-in of one obligation: what each of its offers gives.
use Rattle.std.specs.Prelude.{ℕ, ◌-◌, min, List, [], ◌∷◌, eqb, length}
use Rattle.basics.specs.Choice.{pick}
use Rattle.basics.specs.Lists.{total, padded}
use Rattle.offers.specs.declared.Offer.{Offer}
use Rattle.offers.specs.declared.Given.{Given}
use Rattle.offers.specs.declared.BuyIn.{BuyIn}
use Rattle.offers.specs.Held.{most_offers, no_offer}

-- C7, Close: the offers for obligation i, in the order of the list
unfoldable pub offers_for : ℕ → List Offer → List Offer
offers_for i [] = []
offers_for i (x ∷ xs) = pick (eqb x.obligation i) (x ∷ offers_for i xs) (offers_for i xs)

-- C14, Close: an offer x that gives q units, ahead of the later ones; an offer that gives nothing is left out
unfoldable pub with_given : Offer → ℕ → List Given → List Given
with_given x q later = pick (eqb q 0) later (record { offer = x; quantity = q } ∷ later)

-- B6, Buy-in; C8, Close: each offer in the list gives the smaller of its quantity and what is left. So its quantity may
-- be larger than what is outstanding.
unfoldable pub given_by : ℕ → List Offer → List Given
given_by left [] = []
given_by left (x ∷ xs) = with_given x (min x.quantity left) (given_by (left - min x.quantity left) xs)

-- C7 and C8, Close: what the offers for obligation i give, if left units of it are outstanding. They give in the order
-- of the list xs. The offers that a book holds are in the order of C7 (`listedOffers` in Held.antt).
unfoldable pub given : ℕ → ℕ → List Offer → List Given
given i left xs = given_by left (offers_for i xs)

-- the units that are given
abbrev pub units : List Given → ℕ
units = total (λ g. g.quantity)

-- the units that are offered
abbrev pub offered : List Offer → ℕ
offered = total (λ x. x.quantity)

-- what fills a free place in the list of what offers give
abbrev pub nothing_given : Given
nothing_given = record { offer = no_offer; quantity = 0 }

-- what a pass over the offers returns: what was given, in its order, and free places after it
abbrev pub bought_with : List Given → BuyIn
bought_with gs = record { given = padded most_offers nothing_given gs; count = length gs }
