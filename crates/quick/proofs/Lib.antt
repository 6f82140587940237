pub mod Three
pub mod Normal
