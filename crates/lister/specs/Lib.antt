-- The definitions that the contracts of the list program's work cite.
pub mod Detect
pub mod Output
