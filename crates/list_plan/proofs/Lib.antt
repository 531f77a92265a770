-- The laws of a file's listing.
pub mod Ways
