-- Laws of maps that lie by columns, and of what is stored in a buffer.
pub mod GridLaws
pub mod StoredLaws
