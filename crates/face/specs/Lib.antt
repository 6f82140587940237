-- The definitions that the contracts of the faces share.
pub mod Face
