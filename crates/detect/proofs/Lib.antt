-- What the proofs cite, and what detection's promise settles.
pub mod DueLaws
pub mod StopLaws
pub mod DetectLaws
pub mod RefusalsLaws
pub mod Promise
