-- What rules a candidate out.
pub mod ListLaws
pub mod EndsLaws
pub mod WordRules
pub mod OffRules
pub mod ThinLaws
