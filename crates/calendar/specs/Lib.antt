pub mod Closed
pub mod Days
