-- Years has the calendar, Easter has Easter, and Target has the closed days and the call that writes them.
pub mod Years
pub mod Easter
pub mod Target
