-- The laws of heads, bottom up.
pub mod Segments
pub mod Heads
pub mod Ready
pub mod Short
