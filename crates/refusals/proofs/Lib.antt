-- Laws of the refusals. Named: the outcome of a call that names an obligation. Offering, Rating and Ending: what an
-- Offer, a Rate and a Close that pass them were given, and what an Again answers.
pub mod Named
pub mod Offering
pub mod Rating
pub mod Ending
