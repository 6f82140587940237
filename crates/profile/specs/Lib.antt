-- What the profile statistic computes.
pub mod Four
pub mod Profile
pub mod Tests
pub mod Causes
