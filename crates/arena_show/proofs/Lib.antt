-- What the proofs of several functions use.
pub mod Check
pub mod Samples
