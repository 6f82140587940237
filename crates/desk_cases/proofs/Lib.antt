-- They hold; and what depends on the other desk really does.
pub mod Desks
pub mod Witnesses
