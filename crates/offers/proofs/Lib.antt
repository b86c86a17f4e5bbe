-- Laws on the day's offers. Ranking has those on the order of the auction, and that entered offers stand in it. It
-- rests on Insertion, which holds for any order. Holding has those on the rows that hold the offers, and Giving those
-- on what a buy-in takes from them. Results says how the result of a buy-in is read. Moving has the row of a new offer,
-- and Passing the loop of a buy-in.
pub mod Insertion
pub mod Ranking
pub mod Holding
pub mod Moving
pub mod Giving
pub mod Results
pub mod Passing
