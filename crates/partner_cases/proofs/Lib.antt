-- They hold.
pub mod Partner
