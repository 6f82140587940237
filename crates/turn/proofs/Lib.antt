-- Laws of one tile of a scene.
pub mod TurnLaws
