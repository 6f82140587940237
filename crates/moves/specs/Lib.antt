-- How far a spot is moved.
pub mod Moves
