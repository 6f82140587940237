-- The definitions that the contract of downsample's face cites.
pub mod Face
