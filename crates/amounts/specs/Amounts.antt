-- Money in cents, from units of 1,000 euro nominal, prices in thousandths of a percent and rates in hundredths of a
-- basis point (D9 to D12, Days and units).
use Rattle.std.specs.Prelude.{ℕ, ◌+◌, ◌-◌, ◌*◌, ◌/◌, Bool, List, [], ◌∷◌, ltb, leb}
use Rattle.basics.specs.Choice.{pick}
use Rattle.amounts.specs.Quotients.{rounded}

-- R2, Refusals: the largest quantity
abbrev pub most_quantity : ℕ
most_quantity = 100000

-- R3, Refusals: the largest amount of an instruction
abbrev pub most_amount : ℕ
most_amount = 20000000000

-- R3, Refusals: the highest price of a Close
abbrev pub most_close_price : ℕ
most_close_price = 150000

-- R3, Refusals: the highest price of an offer
abbrev pub most_offer_price : ℕ
most_offer_price = 200000

-- R3, Refusals: the highest rate
abbrev pub most_rate : ℕ
most_rate = 100

-- C4, Close: the largest penalty, by the largest quantity, price and rate, in cents
abbrev pub most_penalty : ℕ
most_penalty = 1500000

-- D9 to D11, Days and units: q units at price p are worth q × p cents. A unit is 1,000 euro of nominal, and a price is
-- a number of thousandths of a percent.
unfoldable pub value : ℕ → ℕ → ℕ
value q p = q * p

-- D12, Days and units; C4, Close: the penalty on q units at a price. The rate is in millionths of their value, and the
-- penalty is rounded to the nearest cent.
unfoldable pub penalty : ℕ → ℕ → ℕ → ℕ
penalty q price rate = rounded (value q price * rate) 1000000

-- C10, Close: the compensation for q units at a price is a tenth of their value, rounded to the nearest cent
unfoldable pub compensation : ℕ → ℕ → ℕ
compensation q price = rounded (value q price) 10

-- V2, Deliver: what is due of the amount a once t of the q units are settled, rounded down
unfoldable pub due_for : ℕ → ℕ → ℕ → ℕ
due_for a q t = a * t / q

-- V2, Deliver: the cash of a delivery before which s units were settled and after which t are settled
unfoldable pub cash : ℕ → ℕ → ℕ → ℕ → ℕ
cash a q s t = due_for a q t - due_for a q s

-- V2 and V4, Deliver: the cash of each of several deliveries of ns units, one after another, where s units were settled
-- before the first
unfoldable pub cash_of_each : ℕ → ℕ → ℕ → List ℕ → List ℕ
cash_of_each a q s [] = []
cash_of_each a q s (n ∷ ns) = cash a q s (s + n) ∷ cash_of_each a q (s + n) ns

-- C9, Close: the charge for q units at a price is their value less the cash for them; where the cash is more it is 0,
-- since this subtraction stops at 0
unfoldable pub charge : ℕ → ℕ → ℕ → ℕ
charge q price cash_for = value q price - cash_for

-- E6, Enter: the tolerance is 200 cents for a delivering amount up to 10,000,000, and 2,500 cents for a larger one
-- (003, article 6)
unfoldable pub tolerance : ℕ → ℕ
tolerance delivering = pick (leb delivering 10000000) 200 2500

-- E7, Enter: whether two amounts are within the tolerance; of the two differences, the one that would be negative is 0
unfoldable pub amounts_match : ℕ → ℕ → Bool
amounts_match delivering receiving = leb ((delivering - receiving) + (receiving - delivering)) (tolerance delivering)

-- B8, Buy-in: whether a price is above the cap: 100 times the price is more than 108 times the price of the Close at
-- age = grace
unfoldable pub above_cap : ℕ → ℕ → Bool
above_cap price grace_price = ltb (108 * grace_price) (100 * price)
