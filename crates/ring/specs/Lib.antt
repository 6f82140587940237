-- The ring of five columns, and what is listed from it. The public promises cite Ring.
pub mod Ring
-- only inner functions cite this
pub mod Lent
pub mod Given
