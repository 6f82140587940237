-- What a scene's face leaves.
pub mod FaceLaws
