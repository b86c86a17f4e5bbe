-- Laws of the closed days. Years: the days of a year and its dates. Sundays: the first Sunday from a day on. Moons: the
-- epact and the paschal full moon. Rising: the closed days rise. Refused: what Target takes, and that Open takes its days.
pub mod Years
pub mod Sundays
pub mod Moons
pub mod Rising
pub mod Refused
