pub mod Rows
pub mod Force
