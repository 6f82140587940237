-- Laws of levels, their samples and views.
pub mod LevelLaws
pub mod ViewLaws
