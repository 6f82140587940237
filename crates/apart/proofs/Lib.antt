-- The theorems on desks: Alone, Counts, Exceptions and Runs; the other modules serve them.
pub mod TableLaws
pub mod SlotLaws
pub mod Alone
pub mod Counts
pub mod Exceptions
pub mod Runs
