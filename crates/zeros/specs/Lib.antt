-- What may differ where zeros are chosen otherwise.
pub mod Steps
pub mod Alike
pub mod Choices
pub mod Bytes
pub mod Example
