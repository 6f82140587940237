-- They hold.
pub mod Store
