-- Laws about the definitions.
pub mod Finite
pub mod Agree
pub mod CubicLaws
pub mod BandLaws
pub mod Owners
pub mod Polarity
pub mod Rival
