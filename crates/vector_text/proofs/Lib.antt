-- The laws of texts, bottom up.
pub mod Numbers
pub mod Stores
pub mod Samples
