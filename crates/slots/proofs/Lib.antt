-- Laws of the lines of a column.
pub mod ColumnLaws
