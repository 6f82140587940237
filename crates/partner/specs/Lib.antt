-- The reader of a partner's list: what it answers. Its promise cites these.
pub mod Partner
pub mod Following
