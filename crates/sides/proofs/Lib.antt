-- What rules a candidate of a column out, by its own lines and by the cubics beside it.
pub mod SideRules
pub mod AcceptLaws
pub mod LeftLaws
pub mod BlockLaws
