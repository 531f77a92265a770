-- The laws of what a buffer holds, and worked samples.
pub mod Runs
pub mod Samples
