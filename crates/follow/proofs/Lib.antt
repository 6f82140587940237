-- Laws of two records and of the walk.
pub mod OrderLaws
pub mod WalkLaws
