-- Laws of the tiles along a side and of copies.
pub mod TilesLaws
pub mod GatherLaws
pub mod CopyLaws
