-- What each finding means, and the words of the claims about edited lists.
pub mod Meaning
pub mod Claims
