-- Whole journals. The theorem on every list of calls is `demand_3` in Theorem. Its statement is the record `Demand3` in
-- Demand3, which can be read by itself; it states the promise G3 of docs/RULES.md. `remembered` in Recalled says of
-- every run that the book holds just what the events say. The rest leads there: Reported and Penalties (the lines of a
-- Close), Rows and ClosedRows (what becomes of the obligations), Moves, Steps and Turns (what moves from book to book),
-- Does and Every (all that each call does), Months (what a Month pays), Model (book and events agree after every list
-- of calls), Recalling and its parts (what the book stores beside its obligations is what the events tell), CapPrices
-- (the price for the cap is there), BuyIns (the offers are taken in their order), Fining (the penalties are those of
-- the rate in force, and 26 does not come again after a Close), Showing (what Status, Account and Look show) and
-- Reprints (what Again shows).
pub mod Demand3
pub mod Theorem
pub mod Recalled
pub mod Reported
pub mod Penalties
pub mod Rows
pub mod Moves
pub mod Steps
pub mod ClosedRows
pub mod Turns
pub mod Every
pub mod Months
pub mod Model
pub mod RecalledLegs
pub mod Does
pub mod Recalling
pub mod CapPrices
pub mod BuyIns
pub mod Fining
pub mod Showing
pub mod Reprints
