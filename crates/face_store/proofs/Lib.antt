-- What the store's face leaves of an outcome.
pub mod FaceLaws
