-- Laws of the feed's calls.
pub mod FeedLaws
