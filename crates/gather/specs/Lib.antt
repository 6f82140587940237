-- Cubics gathered beside candidates. Nothing here stands in a promise of an entry.
pub mod Gather
pub mod Step
