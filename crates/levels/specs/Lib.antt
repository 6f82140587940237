-- The four levels of a raw map. The public promises cite these.
pub mod Levels
