-- Laws of the cubics gathered beside candidates.
pub mod StepLaws
pub mod ListLaws
