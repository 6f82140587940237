-- Laws of the halved level, and what the promises of both helpers settle.
pub mod HalvedLaws
pub mod PyramidLaws
