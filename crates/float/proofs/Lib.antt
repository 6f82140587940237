pub mod Bools
pub mod Floats
pub mod Order
pub mod Patterns
pub mod Width
pub mod Roots
mod Trial
pub mod Scaled
pub mod SqrtClaims
pub mod SqrtClosest
pub mod SmallClaims
pub mod Finite
pub mod Rises
pub mod Signs
pub mod One
pub mod Denied
