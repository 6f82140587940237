-- The join as it was.
pub mod Before
