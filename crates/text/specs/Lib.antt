-- The definitions that the contracts of the list program's text cite.
pub mod Text
