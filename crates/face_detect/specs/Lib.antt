-- The definitions that the contract of detection's face cites.
pub mod Face
