-- Tests of the profile statistic that no input fails. Definitions only.
pub mod Unit
pub mod Reached
