-- Lines of floats.
pub mod Lines
