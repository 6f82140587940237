-- The pyramid's helpers: the octave count, and a level halved.
pub mod Pyramid
