mod Steps
mod Places
mod LogValue
pub mod LogClaims
pub mod ExpClaims
