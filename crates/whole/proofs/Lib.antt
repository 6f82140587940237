pub mod NearestLaws
mod Patterns
