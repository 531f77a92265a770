-- A step of merging.
pub mod Step
