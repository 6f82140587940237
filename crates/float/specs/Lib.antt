pub mod Num
pub mod Small
pub mod Pattern
pub mod Root
pub mod Sqrt
pub mod Square
pub mod Claims
