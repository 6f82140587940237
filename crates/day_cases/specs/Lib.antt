-- The worked cases of a store.
pub mod Store
