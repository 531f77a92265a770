-- The laws that the proofs of this crate's functions cite, bottom up.
pub mod Plain
pub mod Aggregates
pub mod Windows
pub mod Inputs
pub mod Leaves
pub mod Kept
pub mod Places
pub mod Others
