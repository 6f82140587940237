-- The laws of the profile statistic.
pub mod ZeroSign
pub mod TestsLaws
pub mod CausesLaws
