pub mod Amounts
pub mod Quotients
