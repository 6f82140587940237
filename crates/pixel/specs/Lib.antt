-- The judgement of one pixel from its 36 samples.
pub mod Gate
pub mod Ring
pub mod Verdict
pub mod Rules
pub mod Listed
