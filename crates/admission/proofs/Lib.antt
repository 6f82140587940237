-- An accepted spot lies on its map (OnMap), its home at its own pixel or beside it (Beside), its place the pixel plus its displacement (Moved); the samples test and the join's test refuse nothing (Samples, Accepted), so the list is the one by the Rust's own tests (Rust).
pub mod Displaced
pub mod OnMap
pub mod Beside
pub mod Moved
pub mod Samples
mod Envelope
pub mod Accepted
pub mod Rust
