-- The nodes of a plan as text.
pub mod Heads
