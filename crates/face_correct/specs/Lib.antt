-- The definitions that the contract of the correction's face cites.
pub mod Face
