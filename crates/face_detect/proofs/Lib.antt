-- What detection's face leaves of an outcome, and when it answers 4.
pub mod FaceLaws
