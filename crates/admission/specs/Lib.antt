-- Where an accepted spot lies, and what is listed without the admission test that document 01 adds.
pub mod Place
pub mod Rust
