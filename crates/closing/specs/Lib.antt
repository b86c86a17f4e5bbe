-- Lines has a line in words, and what a part of a Close makes. Stages has what happens to one obligation, in the order
-- of the chapter Close. Close has all obligations and the accounts. Asked has what the functions require.
pub mod Lines
pub mod Stages
pub mod Close
pub mod Asked
