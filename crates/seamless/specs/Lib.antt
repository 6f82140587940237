-- The untiled list, and the words of the claims about scenes.
pub mod Untiled
pub mod Claims
pub mod Alone
