-- Laws of the marks.
pub mod MarkedLaws
