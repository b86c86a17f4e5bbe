-- Laws on a Close. Lines: parts that are written one after another. Bought: a buy-in, offer by offer. Parts: what each
-- part leaves of an obligation, and how many lines it makes. Course: the parts of one obligation in their order.
-- Together: all obligations. Fines: the penalties on the accounts. Sizes: how large the numbers of the lines are.
-- Cents: the cents of the penalties.
pub mod Lines
pub mod Bought
pub mod Parts
pub mod Course
pub mod Together
pub mod Fines
pub mod Sizes
pub mod Cents
