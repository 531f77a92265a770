-- The laws of the walk, bottom up.
pub mod Inputs
pub mod Inside
pub mod Plans
