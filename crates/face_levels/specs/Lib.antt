-- The definitions that the contract of the levels' face cites.
pub mod Face
