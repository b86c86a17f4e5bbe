-- Laws of the accounts and of the month's shares.
pub mod Library
pub mod Debts
pub mod Ranks
pub mod Shared
pub mod Signed
pub mod Steps
pub mod Transfers
