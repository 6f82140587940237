-- Laws of the pass.
pub mod ReadLaws
pub mod PassLaws
