-- The theorems on the feed.
pub mod Pairs
pub mod Sorting
pub mod Columns
pub mod HeldLaws
pub mod FeedLaws
pub mod RunLaws
pub mod Answers
pub mod Promise
pub mod Bytes
