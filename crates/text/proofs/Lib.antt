-- What the functions' proofs cite, and what the digits of a count give.
pub mod TextLaws
