-- The refinement, by value and in place.
pub mod Refine
pub mod Lend
