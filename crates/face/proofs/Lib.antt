-- When a set's record is refused.
pub mod FaceLaws
