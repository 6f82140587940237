-- What the customer is owed of detection's list: what stands in it, in which order, what lost pixels take from it, and that the join accepts it.
pub mod List
pub mod TwoMaps
pub mod Joined
