-- The candidates of a column, and what rules them out. Nothing here stands in a promise of an entry.
pub mod Window
pub mod List
pub mod Near
pub mod Ends
pub mod Off
pub mod Ready
