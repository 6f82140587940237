-- What the store's definitions settle, and what the functions' proofs cite.
pub mod StoreLaws
pub mod MovingLaws
pub mod CallLaws
