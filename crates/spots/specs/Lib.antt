-- Marks. Only inner functions cite this.
pub mod Marked
