-- The worked cases, in one table.
pub mod Case
pub mod MapM
pub mod Raw
pub mod Feeds
pub mod Scenes
pub mod Table
pub mod Moves
