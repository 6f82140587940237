-- Laws of a tile's list and of its records in the output.
pub mod NumberedLaws
pub mod PlaceLaws
pub mod ListLaws
pub mod FillLaws
