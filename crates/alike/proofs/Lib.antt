-- Laws of compared bytes, and of parts.
pub mod SameLaws
pub mod PartLaws
