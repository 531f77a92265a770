-- What the proofs of several functions use.
pub mod Grow
pub mod Defs
pub mod Ways
pub mod Items
