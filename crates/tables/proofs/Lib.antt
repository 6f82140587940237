-- The laws of the set and of the refusals, which other crates may cite, and those that only the functions' proofs cite.
pub mod SetLaws
pub mod RefusalLaws
pub mod ThresholdsLaws
mod Loops
mod Floats
