-- The codes of refusals.
pub mod Codes
