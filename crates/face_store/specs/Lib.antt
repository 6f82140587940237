-- The definitions that the contracts of the store's face cite.
pub mod Face
