-- The laws that the proofs of this crate's functions cite, bottom up.
pub mod Rows
pub mod Adding
pub mod Parting
pub mod Lists
