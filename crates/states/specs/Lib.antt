-- A feed's state as bytes. The promises of the C face cite these.
pub mod Bytes
