-- One tile: its records with the tile's numbers, and what it leaves in the output.
pub mod Numbered
pub mod Tile
