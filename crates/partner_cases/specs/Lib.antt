-- The worked cases of the reader of a partner's list.
pub mod Partner
