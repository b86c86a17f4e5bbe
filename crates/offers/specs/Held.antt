-- The day's offers as the book holds them, in the order of the auction.
use Rattle.std.specs.Prelude.{ℕ, ◌+◌, List, ◌++◌, take, drop, replicate}
use Rattle.offers.specs.declared.Offer.{Offer}
use Rattle.offers.specs.declared.Offers.{Offers}
use Rattle.offers.specs.Rank.{inserted}

-- B5, Buy-in: the most offers that a book holds
abbrev pub most_offers : ℕ
most_offers = 64

-- what fills a free place among the offers that a book holds
abbrev pub no_offer : Offer
no_offer = record { obligation = 0; supplier = 0; quantity = 0; price = 0 }

-- O5, Open; C17, Close: no offers, as in a fresh book and after each Close
abbrev pub no_offers : Offers
no_offers = record { rows = replicate most_offers no_offer; count = 0 }

-- B5, Buy-in: the offers of today, in the order of the auction; the rows after them are free
abbrev pub listed_offers : Offers → List Offer
listed_offers s = take s.count s.rows

-- B4, Buy-in; C7, Close: one offer more, at its place in the order of the auction; the free rows after it stay as they
-- were
abbrev pub with_offer : Offers → Offer → Offers
with_offer s o = record { rows = inserted o (listed_offers s) ++ drop (s.count + 1) s.rows; count = s.count + 1 }
