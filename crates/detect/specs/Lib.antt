-- Detection: the due list, what takes it, and what the detector answers and leaves, refusals first. The public promises cite these.
pub mod Due
pub mod Taker
pub mod Laying
pub mod Detect
