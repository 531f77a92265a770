-- What a node is judged by, and what the answers of this crate stand for, bottom up.
pub mod Heads
pub mod Nodes
pub mod Verdicts
