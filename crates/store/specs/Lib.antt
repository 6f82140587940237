-- The store: what each call answers and leaves.
pub mod Store
pub mod Steps
