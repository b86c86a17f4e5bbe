-- Laws of the calendar: Closed of the list of closed days, Walks of the walks from day to day, Counting of an age in
-- weekdays, Next, Ages and Enough what callers use.
pub mod Closed
pub mod Walks
pub mod Next
pub mod Ages
pub mod Enough
pub mod Counting
