-- Each promise settles what a call leaves.
mod Facts
pub mod Floats
pub mod Bytes
pub mod Fits
pub mod Detector
pub mod Face
pub mod Lister
