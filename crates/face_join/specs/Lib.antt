-- The definitions that the contract of the join's face cites.
pub mod Face
