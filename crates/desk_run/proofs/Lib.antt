-- What a run is: detection with the set found, or 11.
pub mod RunLaws
