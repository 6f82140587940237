-- The numbers of a refinement.
pub mod Edge
pub mod Place
