-- Tests of the profile statistic that no input fails.
pub mod Bounds
pub mod RootsUsable
pub mod Energy
pub mod Unreached
