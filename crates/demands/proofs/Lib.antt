-- The theorems on detection's list: Listed, Accepted, Held, NotFinite, Samples, Clear, TwoMaps, Answers and Joined; the other modules serve them.
pub mod NotFinite
pub mod Ring
pub mod Samples
pub mod Judge
pub mod Places
pub mod Listed
pub mod Accepted
pub mod Held
pub mod Clear
pub mod TwoMaps
pub mod Answers
pub mod Joined
