-- Runs of calls of a feed, the levels that their columns make up, and the order of what they list.
pub mod Held
pub mod Run
pub mod Order
