-- What the join's face leaves of an outcome.
pub mod FaceLaws
