-- What the feed's calls answer and leave. The public promises cite this.
pub mod Feed
