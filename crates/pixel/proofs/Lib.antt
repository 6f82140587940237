-- Laws of the judgement of one pixel.
pub mod NineLaws
pub mod GateLaws
pub mod RingLaws
pub mod VerdictLaws
pub mod OrderLaws
pub mod RuleOut
pub mod ListedLaws
