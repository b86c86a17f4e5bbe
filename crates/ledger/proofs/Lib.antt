-- Laws of the ledger: Moving says what a move of a quantity does to its parts, Keeping what leaves an obligation sound,
-- Valid what leaves the ledger valid.
pub mod Moving
pub mod Keeping
pub mod Valid
