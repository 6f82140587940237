-- The definitions that the contracts of the set and of its reader cite, and the set that worked cases use.
pub mod Set
pub mod Refusal
pub mod SetT
