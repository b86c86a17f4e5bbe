pub mod Rank
pub mod Held
pub mod BuyIn
