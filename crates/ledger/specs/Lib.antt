-- Setup has what a book keeps from its Open on. Lines has how long the list of a Close is. Parts has what becomes of a
-- quantity. Obligations has what happens to one obligation, and Ledger has what happens to all of them.
pub mod Setup
pub mod Lines
pub mod Parts
pub mod Obligations
pub mod Ledger
