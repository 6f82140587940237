-- What a call of a desk settles: the first refusal that applies, by its place, and that a refusal changes nothing.
pub mod CallLaws
mod CodeLaws
