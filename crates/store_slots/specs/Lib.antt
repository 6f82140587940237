-- The slots of a store.
pub mod Slots
