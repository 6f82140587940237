-- What the proofs cite, and what a sized record says.
pub mod SizedLaws
pub mod HomeLaws
pub mod SizeLaws
