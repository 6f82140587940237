-- What the levels' face leaves of an outcome.
pub mod FaceLaws
