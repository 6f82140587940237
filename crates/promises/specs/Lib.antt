-- What it is for a promise to settle what a call leaves.
pub mod Settles
