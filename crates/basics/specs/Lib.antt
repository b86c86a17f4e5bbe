pub mod Choice
pub mod Lists
pub mod Reasons
pub mod Refusals
