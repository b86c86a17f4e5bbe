-- Laws on the lines of the latest Close. Keeping: the lines that are kept, and how they are written.
pub mod Keeping
