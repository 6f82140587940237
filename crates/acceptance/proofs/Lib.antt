-- What is found means what it says, what edited lists come to, and what a call answers.
pub mod FindingLaws
pub mod EditedLaws
pub mod AcceptLaws
pub mod EditedCalls
