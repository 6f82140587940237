-- Laws of the marks.
pub mod MarksLaws
