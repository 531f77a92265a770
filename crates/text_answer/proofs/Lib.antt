-- The laws of the listing's answer.
pub mod Listed
pub mod Files
