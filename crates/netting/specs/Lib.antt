pub mod Accounts
pub mod Portions
pub mod Shares
