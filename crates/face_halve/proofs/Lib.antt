-- What downsample's face leaves of an outcome.
pub mod FaceLaws
