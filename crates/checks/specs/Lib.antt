-- Detection's checks, in their order. The public promises cite these.
pub mod Checks
