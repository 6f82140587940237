-- What the proofs cite.
pub mod StopLaws
pub mod CheckLaws
