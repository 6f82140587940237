-- What a store stands for: a simple list of optional spots; any sequence of calls on either; and the words of the claims.
pub mod Model
pub mod Runs
pub mod Claims
