-- Laws of the judged column's blocks.
pub mod RuleLaws
