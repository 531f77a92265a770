-- What the proofs of several functions use.
pub mod Laws
pub mod Sets
pub mod Fold
pub mod Extract
pub mod Remove
