-- The theorem on the settled examples is `settled` of Settled. Journals: the examples that are calls are journals as the
-- promise on whole journals speaks of them. Small and Same: what the program rests on.
pub mod Settled
pub mod Journals
pub mod Passing
pub mod Small
pub mod Same
