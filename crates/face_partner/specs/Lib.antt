-- The definitions that the contract of the reader's face cites.
pub mod Face
