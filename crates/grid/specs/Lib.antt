-- Maps that lie by columns. The public promises cite these.
pub mod Grid
