pub mod Legs
pub mod Match
pub mod Entry
