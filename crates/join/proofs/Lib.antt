-- What the proofs cite, and what the join's promise settles.
pub mod CheckLaws
pub mod SizedLaws
pub mod JoinLaws
pub mod RefusalsLaws
pub mod TakenLaws
