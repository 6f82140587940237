-- What the functions' proofs cite, here and in the list program's work.
pub mod InputLaws
