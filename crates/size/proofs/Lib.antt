-- Laws of the correction, and what their proofs cite.
pub mod CorrectLaws
pub mod ZeroSign
pub mod CausesLaws
pub mod BeforeLaws
