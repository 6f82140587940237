-- The join of an old list is the join as it was.
pub mod OldLaws
