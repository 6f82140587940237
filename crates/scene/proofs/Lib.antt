-- Laws of a scene's tiles, one after the other.
pub mod BytesLaws
pub mod RunLaws
