-- The join: how the records of a list lie, what the join answers and leaves, and the words of the claims about it.
pub mod Forms
pub mod Join
pub mod Claims
