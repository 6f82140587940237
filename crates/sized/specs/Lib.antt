-- A sized record.
pub mod Sized
