-- Laws of Month. Collected: what is collected is owed, and the claims cover it.
-- Everybody: an empty list of collected amounts pays every claim, as a list of what each member owes does.
pub mod Collected
pub mod Everybody
