-- What the exported inner functions answer.
pub mod Probe
pub mod Blurs
