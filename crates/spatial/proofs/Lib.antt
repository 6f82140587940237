-- What the proofs of the spatial fit cite.
mod FitSteps
