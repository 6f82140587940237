-- What one pixel's judgement computes.
pub mod Near
pub mod Prims
pub mod Cubic
pub mod Envelope
pub mod Extrema
pub mod Band
pub mod Owns
pub mod Owned
