-- Laws of the nine places.
pub mod NineLaws
pub mod LevelsLaws
