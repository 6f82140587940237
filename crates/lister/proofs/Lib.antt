-- What the functions' proofs cite, and what the list program's promise settles.
pub mod DetectLaws
pub mod OutputLaws
mod ReadLaws
