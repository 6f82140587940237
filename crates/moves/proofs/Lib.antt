-- What the proofs cite.
pub mod MovesLaws
