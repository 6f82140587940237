-- What the promise of levels settles.
pub mod LevelsLaws
