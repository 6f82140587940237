pub mod LayoutLaws
pub mod RoundTrip
pub mod Converse
pub mod ReadableLaws
