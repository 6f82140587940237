-- What a scene is that passed its checks.
pub mod ChecksLaws
