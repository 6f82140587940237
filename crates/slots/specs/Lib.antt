-- The lines of a column, in a slot. Nothing here stands in a promise of an entry.
pub mod Column
