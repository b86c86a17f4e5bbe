-- Laws that every chapter of the rules uses. Refusals says what an answer number means.
pub mod Arrays
pub mod Cases
pub mod Counts
pub mod Everywhere
pub mod Fronts
pub mod Places
pub mod Positions
pub mod Reasons
pub mod Refusals
pub mod Stores
pub mod Sums
pub mod Tables
pub mod TableSums
