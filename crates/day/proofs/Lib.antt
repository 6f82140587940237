-- What holds of a store, whatever is called.
pub mod Simulation
pub mod Refusals
pub mod Slots
pub mod Lists
