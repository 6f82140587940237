-- The definitions that the contract of a scene's face cites.
pub mod Face
