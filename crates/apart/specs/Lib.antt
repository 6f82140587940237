-- Words of the theorems on desks: what a call makes of its slot, and histories of calls.
pub mod Slots
pub mod Calls
pub mod Counts
