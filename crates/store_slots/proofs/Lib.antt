-- What holds of slots, and what the functions' proofs cite.
pub mod SlotLaws
pub mod SearchLaws
pub mod ByteLaws
