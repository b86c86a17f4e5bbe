-- Laws of the amounts.
pub mod Bounds
pub mod Cash
pub mod Products
