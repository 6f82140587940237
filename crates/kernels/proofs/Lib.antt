-- Laws of the kernels: the number rounded up, and the radii.
pub mod Ceil
pub mod Radii
