-- What the correction of a spot's sigma computes.
pub mod Correct
pub mod Claims
pub mod Before
