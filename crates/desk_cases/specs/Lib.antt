-- The worked cases of the table that two desks share.
pub mod Desks
