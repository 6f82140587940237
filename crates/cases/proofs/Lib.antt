-- The table of worked cases holds.
pub mod Table
pub mod Cuts
pub mod Moves
