-- Candidates ruled out one column at a time. Nothing here stands in a promise of an entry.
pub mod Beside
