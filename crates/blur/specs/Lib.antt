-- A level of a raw map by its kernel, how far a lost raw pixel reaches, and what the loops leave.
pub mod Blur
pub mod Reach
pub mod Passes
