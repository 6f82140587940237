-- Laws of the ring, and of what is listed from it.
pub mod RingLaws
pub mod SpotsLaws
