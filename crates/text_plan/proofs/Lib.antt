-- The laws of the texts of nodes and plans.
pub mod Heads
pub mod Plans
