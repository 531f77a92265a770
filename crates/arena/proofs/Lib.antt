-- What the proofs of several functions use.
pub mod Laws
pub mod Same
pub mod Rows
pub mod Kept
