-- A scene cut into tiles, and one tile's turn.
pub mod Tiled
pub mod Turn
