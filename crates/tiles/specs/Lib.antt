-- The tiles of a scene: where they lie along a side, and a tile's copy of a level.
pub mod Tiles
pub mod Copy
