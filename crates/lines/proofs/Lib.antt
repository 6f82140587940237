-- The padding of a line.
pub mod LineLaws
