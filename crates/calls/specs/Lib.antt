-- What a call writes.
pub mod Calls
pub mod Computes
