-- The laws of listings, bottom up.
pub mod Digits
pub mod Puts
pub mod Nodes
pub mod Files
pub mod Answers
pub mod Program
pub mod Samples
