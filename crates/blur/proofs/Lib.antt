-- Laws of a pass, of the two by lines, of a whole level, and of how far a lost raw pixel reaches.
pub mod Pass
mod PassLaws
pub mod LevelLaws
pub mod ReachLaws
