-- Marks of pixels, a bit each. Nothing here stands in a promise of an entry.
pub mod Marks
