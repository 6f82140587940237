-- The table that two desks share: its layout, and what each call of a desk answers and leaves.
pub mod Table
pub mod Desks
