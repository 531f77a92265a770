-- What is proved of the readers of nodes.
pub mod Heads
