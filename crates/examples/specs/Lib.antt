pub mod Played
pub mod Table
