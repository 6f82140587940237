-- The definitions that the contracts of what is read cite.
pub mod Input
