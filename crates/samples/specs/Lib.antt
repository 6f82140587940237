-- Levels and their samples. The public promises cite these.
pub mod Level
pub mod Four
pub mod Map
