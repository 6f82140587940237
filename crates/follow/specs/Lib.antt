-- A given list beside the records that are due. The reader's promise cites these.
pub mod Follow
