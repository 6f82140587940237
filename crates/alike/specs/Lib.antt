-- Bytes compared.
pub mod Same
