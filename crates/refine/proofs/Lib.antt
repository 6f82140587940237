-- Laws of the refinement, and what their proofs cite.
pub mod RefineLaws
pub mod LendLaws
pub mod Rejected
