-- A run of detection from a slot of the desks' table.
pub mod Run
