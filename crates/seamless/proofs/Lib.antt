-- The theorems on whole scenes: Judged, Once, Lost, Alone, Answered, Calls and Refusals; the other modules serve them.
pub mod Judged
pub mod Form
pub mod Copies
pub mod Agree
pub mod Once
pub mod Lost
pub mod Alone
pub mod Answered
pub mod Calls
pub mod Refusals
