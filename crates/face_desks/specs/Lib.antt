-- The definitions that the contracts of the desks' face cite.
pub mod Face
