-- The pass that rules pixels out. Nothing here stands in a promise of an entry.
pub mod Ruled
