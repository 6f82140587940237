-- What the desks' face leaves of an outcome.
pub mod FaceLaws
