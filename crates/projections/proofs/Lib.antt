-- The laws that the proofs of this crate's functions cite, bottom up.
pub mod Chosen
pub mod Tests
pub mod Copying
pub mod Tops
